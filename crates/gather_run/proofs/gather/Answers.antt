use Rattle.std.proofs.Common.{◌≡◌, ◌≤◌, ◌∙◌, ℕ, suc, List, IfSome, length, option_map, None, Some, map, subst, sym}
use Rattle.dsa_area.specs.Shown.{AreAll}
use Rattle.dshash_parts.specs.Ending.{whole_of}
use Rattle.scan_claim.specs.Shown.{blocks_of, lists_of}
use Rattle.partial_agg.specs.Groups.{GroupsByKey}
use Rattle.par_model.specs.Plan.{Plan}
use Rattle.parallel_ctx.specs.Accounts.{heard_of, use_by}
use Rattle.parallel_ctx.specs.Making.{HasTable}
use Rattle.parallel_ctx.specs.Ran.{AreWhole}
use Rattle.parallel_ctx.specs.declared.home.Returned.{Returned}
use Rattle.worker_run.specs.declared.WorkerEnd.{WorkerEnd}
use Rattle.row_blocks.specs.Blocks.{AreBlocks}
use Rattle.agg_law.proofs.Gathering.{gathers}
use Rattle.gather_run.specs.Answers.{AreAllGroups, IsCause, IsFirstCause}
use Rattle.worker_run.specs.Verdicts.{AreVerdict}
use Rattle.gather_run.specs.Drained.{AddsAll}
use Rattle.gather_run.specs.Leading.{HasLed, Led}
use Rattle.gather_run.specs.Used.{IsUsed}
use Rattle.gather_run.proofs.Counting.{few_workers}
use Rattle.gather_run.proofs.Home.{gathered, held, made_where, passes_home, ran_home, ran_well, same_there, tells, whole_after}
use Rattle.gather_run.proofs.Looking.{on_ok}
use Rattle.gather_run.proofs.Together.{all_read, all_well, ends_of, leader_first, leader_row, worker_first, worker_row}
use Rattle.gather_run.proofs.gather.Goals as goal

pub returns-in-Some-clause-row : goal.returns-in-Some-clause-row
returns-in-Some-clause-row g c =
    let r = c.in-Ok-run.ensures.ran in
    let p = c.in-Ok.context in
    let f = c.in-Ok-run.finished in
    let leader = c.run.new.lead in
    subst (λ (q : Plan). IsCause q c.args.rows.now c.in-Some.why) c.in-Ok.ensures.plan
    (leader_row (use_by f) p.plan c.args.rows.now (blocks_of p.shared.claims) r.own (use_by f 0) r.draws f.workers.items leader.groups leader.failure c.in-Some.why r.workers r.led (sym c.into_groups-groups.ensures.1 ∙ c.in-Some.is))

pub returns-in-Some-verdict-clause-row : goal.returns-in-Some-verdict-clause-row
returns-in-Some-verdict-clause-row g c =
    let r = c.in-Ok-run.ensures.ran in
    let p = c.in-Ok.context in
    let f = c.in-Ok-run.finished in
    let ws = f.workers.items in
    subst (λ (q : Plan). IsCause q c.args.rows.now c.answer_of.result) c.in-Ok.ensures.plan
    (worker_row (use_by f) p.plan c.args.rows.now (blocks_of p.shared.claims) r.draws ws c.in-Some-verdict.why c.answer_of.result r.workers
    (subst (λ (l : List (Returned WorkerEnd)). AreVerdict (ends_of l) (Some c.in-Some-verdict.why)) c.deref.ensures.value c.in-Some-verdict.ensures) c.answer_of.ensures)

pub returns-in-Some-clause-first : goal.returns-in-Some-clause-first
returns-in-Some-clause-first g c none =
    let r = c.in-Ok-run.ensures.ran in
    let p = c.in-Ok.context in
    let f = c.in-Ok-run.finished in
    let leader = c.run.new.lead in
    subst (λ (q : Plan). IsFirstCause q c.args.rows.now c.in-Some.why) c.in-Ok.ensures.plan
    (leader_first (use_by f) p.plan c.args.rows.now (blocks_of p.shared.claims) r.own (use_by f 0) f.workers.items leader.groups leader.failure c.in-Some.why (r.asked ∙ c.in-Ok.ensures.asked ∙ none) r.led (sym c.into_groups-groups.ensures.1 ∙ c.in-Some.is))

pub returns-in-Some-verdict-clause-first : goal.returns-in-Some-verdict-clause-first
returns-in-Some-verdict-clause-first g c none =
    let r = c.in-Ok-run.ensures.ran in
    let p = c.in-Ok.context in
    let f = c.in-Ok-run.finished in
    subst (λ (q : Plan). IsFirstCause q c.args.rows.now c.answer_of.result) c.in-Ok.ensures.plan
    (worker_first (use_by f) p.plan c.args.rows.now (blocks_of p.shared.claims) f.workers.items c.in-Some-verdict.why c.answer_of.result (r.asked ∙ c.in-Ok.ensures.asked ∙ none)
    (subst (λ (l : List (Returned WorkerEnd)). AreVerdict (ends_of l) (Some c.in-Some-verdict.why)) c.deref.ensures.value c.in-Some-verdict.ensures) c.answer_of.ensures)

pub add_table-requires-clause-part : goal.add_table-requires-clause-part
add_table-requires-clause-part g c = (ran_home _ _ c.in-Ok.context c.in-Ok-run.finished c.run.new.lead c.in-Ok-run.ensures.ran).2

pub add_table-requires-clause-whole : goal.add_table-requires-clause-whole
add_table-requires-clause-whole g c = (ran_home _ _ c.in-Ok.context c.in-Ok-run.finished c.run.new.lead c.in-Ok-run.ensures.ran).1

pub add_table-requires-clause-held : goal.add_table-requires-clause-held
add_table-requires-clause-held g c =
    let r = c.in-Ok-run.ensures.ran in
    let p = c.in-Ok.context in
    let leader = c.run.new.lead in
    let f = c.in-Ok-run.finished in
    let ws = f.workers.items in
    let records = c.args.rows.now in
    let blocks = blocks_of p.shared.claims in
    let never : leader.failure ≡ None = sym c.into_groups-groups.ensures.1 ∙ c.in_default-failure.is in
    let led : HasLed p.plan records blocks r.own (use_by f 0) (map heard_of ws) leader.groups = subst (Led p.plan records blocks r.own (use_by f 0) (map heard_of ws) leader.groups) never r.led in
    let are : AreBlocks records blocks = subst (AreBlocks records) (sym c.in-Ok.ensures.blocks) c.count_blocks.ensures.blocks in
    let verdict : AreVerdict (ends_of ws) c.verdict.result = subst (λ (l : List (Returned WorkerEnd)). AreVerdict (ends_of l) c.verdict.result) c.deref.ensures.value c.verdict.ensures in
    let well = all_well ws (subst (AreVerdict (ends_of ws)) c.in_default-verdict.is verdict) in
    let asked : length ws ≡ c.args.workers = r.asked ∙ c.in-Ok.ensures.asked in
    let items : length p.plan.items ≤ 8 = subst (λ (q : Plan). length q.items ≤ 8) (sym c.in-Ok.ensures.plan) c.has_few_items.ensures in
    let went = ran_well _ p f leader records leader.groups r led are c.count_blocks.ensures.short (few_workers c.args.workers (length ws) (sym asked) c.requires.workers) items well in
    held (λ t. whole_of t) f.areas.items p.plan records blocks r.drawn.0 (lists_of f.drawn) r.own r.draws ws leader.groups f.table went

pub returns-clause-groups : goal.returns-clause-groups
returns-clause-groups g c =
    let r = c.in-Ok-run.ensures.ran in
    let p = c.in-Ok.context in
    let leader = c.run.new.lead in
    let f = c.in-Ok-run.finished in
    let ws = f.workers.items in
    let records = c.args.rows.now in
    let blocks = blocks_of p.shared.claims in
    let never : leader.failure ≡ None = sym c.into_groups-groups.ensures.1 ∙ c.in_default-failure.is in
    let led : HasLed p.plan records blocks r.own (use_by f 0) (map heard_of ws) leader.groups = subst (Led p.plan records blocks r.own (use_by f 0) (map heard_of ws) leader.groups) never r.led in
    let are : AreBlocks records blocks = subst (AreBlocks records) (sym c.in-Ok.ensures.blocks) c.count_blocks.ensures.blocks in
    let verdict : AreVerdict (ends_of ws) c.verdict.result = subst (λ (l : List (Returned WorkerEnd)). AreVerdict (ends_of l) c.verdict.result) c.deref.ensures.value c.verdict.ensures in
    let well = all_well ws (subst (AreVerdict (ends_of ws)) c.in_default-verdict.is verdict) in
    let asked : length ws ≡ c.args.workers = r.asked ∙ c.in-Ok.ensures.asked in
    let items : length p.plan.items ≤ 8 = subst (λ (q : Plan). length q.items ≤ 8) (sym c.in-Ok.ensures.plan) c.has_few_items.ensures in
    let went = ran_well _ p f leader records leader.groups r led are c.count_blocks.ensures.short (few_workers c.args.workers (length ws) (sym asked) c.requires.workers) items well in
    let here = on_ok c.add_table.result (AddsAll (option_map (λ t. whole_of t) f.table) c.into_groups-groups.result.0 c.add_table.new.groups) (sym c.if-is_err.ensures.value) c.add_table.ensures.added in
    let added = subst (λ (m : GroupsByKey). AddsAll (option_map (λ t. whole_of t) f.table) m c.add_table.new.groups) c.into_groups-groups.ensures.0 here in
    let all = gathered (λ t. whole_of t) f.areas.items p.plan records blocks r.drawn.0 (lists_of f.drawn) r.own r.draws ws leader.groups gathers f.table went c.add_table.new.groups added in
    subst (λ (q : Plan). AreAllGroups q records c.into_groups.result) c.in-Ok.ensures.plan
    (record {
      accepted = all.0;
      whole = c.add_table.new.groups;
      are = all.1;
      in_order = c.into_groups.ensures;
    })

pub returns-clause-used : goal.returns-clause-used
returns-clause-used g c =
    let r = c.in-Ok-run.ensures.ran in
    let p = c.in-Ok.context in
    let leader = c.run.new.lead in
    let f = c.in-Ok-run.finished in
    let ws = f.workers.items in
    let records = c.args.rows.now in
    let blocks = blocks_of p.shared.claims in
    let never : leader.failure ≡ None = sym c.into_groups-groups.ensures.1 ∙ c.in_default-failure.is in
    let led : HasLed p.plan records blocks r.own (use_by f 0) (map heard_of ws) leader.groups = subst (Led p.plan records blocks r.own (use_by f 0) (map heard_of ws) leader.groups) never r.led in
    let are : AreBlocks records blocks = subst (AreBlocks records) (sym c.in-Ok.ensures.blocks) c.count_blocks.ensures.blocks in
    let verdict : AreVerdict (ends_of ws) c.verdict.result = subst (λ (l : List (Returned WorkerEnd)). AreVerdict (ends_of l) c.verdict.result) c.deref.ensures.value c.verdict.ensures in
    let well = all_well ws (subst (AreVerdict (ends_of ws)) c.in_default-verdict.is verdict) in
    let asked : length ws ≡ c.args.workers = r.asked ∙ c.in-Ok.ensures.asked in
    let items : length p.plan.items ≤ 8 = subst (λ (q : Plan). length q.items ≤ 8) (sym c.in-Ok.ensures.plan) c.has_few_items.ensures in
    let went = ran_well _ p f leader records leader.groups r led are c.count_blocks.ensures.short (few_workers c.args.workers (length ws) (sym asked) c.requires.workers) items well in
    let same = c.add_table.ensures.history in
    let t = tells (λ t. whole_of t) f.areas.items p.plan records blocks r.drawn.0 (lists_of f.drawn) r.own r.draws ws leader.groups f.table c.add_table.new.table went same in
    let home = ran_home _ _ p f leader r in
    let made = subst (λ (q : Plan). HasTable q c.args.area_pages p.shared.hash) (sym c.in-Ok.ensures.plan) c.in-Ok.ensures.hash in
    subst (λ (q : Plan). IsUsed q records c.args.workers c.args.area_pages (record f { table = c.add_table.new.table })) c.in-Ok.ensures.plan
    (record {
      asked = asked;
      numbers = r.numbers;
      ended = well;
      noticed = all_read (use_by f) p.plan records blocks r.draws ws r.workers led.errors_over;
      launched = r.launched;
      own = r.own;
      draws = r.draws;
      lists = r.lists;
      drawn = t.drawn;
      table = same_there (λ t. whole_of t) f.table c.add_table.new.table same ∙ home.0 ∙ made_where p.plan c.args.area_pages p.shared.hash made;
      whole = subst (λ (n : ℕ). IfSome c.add_table.new.table (λ t. AreWhole (suc n) (whole_of t))) asked (whole_after (λ t. whole_of t) f.table c.add_table.new.table (suc (length ws)) same went.whole);
      areas = passes_home p.shared.hash c.add_table.new.table (suc c.args.workers) f.areas.items (same_there (λ t. whole_of t) f.table c.add_table.new.table same ∙ home.0)
          (λ part is. subst (λ (n : ℕ). (length f.areas.items ≡ suc n) × AreAll part.area f.areas.items) c.in-Ok.ensures.asked (r.areas part is));
      shared_own = t.shared_own;
      shared = t.shared;
      sent = t.sent;
    })
