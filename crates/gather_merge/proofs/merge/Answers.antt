use Rattle.std.proofs.Common.{◌≡◌, ◌∙◌, ℕ, All, List, Vec, drop, None, Some, map, ap, subst, sym}
use Rattle.std.specs.Global.{Global}
use Rattle.scan_claim.specs.Shown.{blocks_of, lists_of}
use Rattle.par_model.specs.Plan.{Plan}
use Rattle.partial_agg.specs.Rows.{IsAccepted, header_width}
use Rattle.parallel_ctx.specs.Accounts.{heard_of, use_by}
use Rattle.parallel_ctx.specs.declared.home.Returned.{Returned}
use Rattle.worker_run.specs.declared.WorkerEnd.{WorkerEnd}
use Rattle.row_blocks.specs.Blocks.{AreBlocks}
use Rattle.gather_merge.specs.Answers.{IsCause, IsFirstCause, OrdersRows}
use Rattle.gather_merge.specs.Leading.{HasLed, Led}
use Rattle.gather_merge.specs.Order.{IsOrder}
use Rattle.worker_run.specs.Verdicts.{AreVerdict}
use Rattle.gather_merge.specs.Used.{IsUsed}
use Rattle.gather_merge.proofs.Together.{all_merged, all_read, all_well, ends_of, leader_cause, leader_first_cause, worker_cause, worker_first_cause}
use Rattle.gather_merge.proofs.merge.Goals as goal

pub returns-in-Some-clause-row : goal.returns-in-Some-clause-row
returns-in-Some-clause-row g c =
    let r = c.in-Ok-run.ensures.ran in
    let p = c.in-Ok.context in
    let leader = c.run.new.lead in
    let orders : OrdersRows p.plan = subst OrdersRows (sym c.in-Ok.ensures.plan) c.requires.plan in
    subst (λ (q : Plan). IsCause q c.args.rows.now c.in-Some.why) c.in-Ok.ensures.plan
    (leader_cause (use_by c.in-Ok-run.finished) p.plan c.args.rows.now (blocks_of p.shared.claims) orders r.own r.draws c.in-Ok-run.finished.workers.items leader.order.items leader.failure c.in-Some.why r.workers r.led
    (sym c.into_order-list.ensures.1 ∙ c.in-Some.is))

pub returns-in-Some-verdict-clause-row : goal.returns-in-Some-verdict-clause-row
returns-in-Some-verdict-clause-row g c =
    let r = c.in-Ok-run.ensures.ran in
    let p = c.in-Ok.context in
    let ws = c.in-Ok-run.finished.workers.items in
    let orders : OrdersRows p.plan = subst OrdersRows (sym c.in-Ok.ensures.plan) c.requires.plan in
    subst (λ (q : Plan). IsCause q c.args.rows.now c.answer_of.result) c.in-Ok.ensures.plan
    (worker_cause (use_by c.in-Ok-run.finished) p.plan c.args.rows.now (blocks_of p.shared.claims) orders r.draws ws c.in-Some-verdict.why c.answer_of.result r.workers
    (subst (λ (l : List (Returned WorkerEnd)). AreVerdict (ends_of l) (Some c.in-Some-verdict.why)) c.deref.ensures.value c.in-Some-verdict.ensures) c.answer_of.ensures)

pub returns-in-Some-clause-first : goal.returns-in-Some-clause-first
returns-in-Some-clause-first g c none =
    let r = c.in-Ok-run.ensures.ran in
    let p = c.in-Ok.context in
    let leader = c.run.new.lead in
    let ws = c.in-Ok-run.finished.workers.items in
    let orders : OrdersRows p.plan = subst OrdersRows (sym c.in-Ok.ensures.plan) c.requires.plan in
    subst (λ (q : Plan). IsFirstCause q c.args.rows.now c.in-Some.why) c.in-Ok.ensures.plan
    (leader_first_cause (use_by c.in-Ok-run.finished) p.plan c.args.rows.now (blocks_of p.shared.claims) orders r.own ws leader.order.items leader.failure c.in-Some.why (r.asked ∙ c.in-Ok.ensures.asked ∙ none) r.led
    (sym c.into_order-list.ensures.1 ∙ c.in-Some.is))

pub returns-in-Some-verdict-clause-first : goal.returns-in-Some-verdict-clause-first
returns-in-Some-verdict-clause-first g c none =
    let r = c.in-Ok-run.ensures.ran in
    let p = c.in-Ok.context in
    let ws = c.in-Ok-run.finished.workers.items in
    let orders : OrdersRows p.plan = subst OrdersRows (sym c.in-Ok.ensures.plan) c.requires.plan in
    subst (λ (q : Plan). IsFirstCause q c.args.rows.now c.answer_of.result) c.in-Ok.ensures.plan
    (worker_first_cause (use_by c.in-Ok-run.finished) p.plan c.args.rows.now (blocks_of p.shared.claims) orders ws c.in-Some-verdict.why c.answer_of.result (r.asked ∙ c.in-Ok.ensures.asked ∙ none)
    (subst (λ (l : List (Returned WorkerEnd)). AreVerdict (ends_of l) (Some c.in-Some-verdict.why)) c.deref.ensures.value c.in-Some-verdict.ensures) c.answer_of.ensures)

pub returns : goal.returns
returns g c =
    let r = c.in-Ok-run.ensures.ran in
    let p = c.in-Ok.context in
    let leader = c.run.new.lead in
    let f = c.in-Ok-run.finished in
    let ws = f.workers.items in
    let records = c.args.rows.now in
    let blocks = blocks_of p.shared.claims in
    let never : leader.failure ≡ None = sym c.into_order-list.ensures.1 ∙ c.in_default-failure.is in
    let led : HasLed p.plan records blocks r.own (map heard_of ws) leader.order.items = subst (Led p.plan records blocks r.own (map heard_of ws) leader.order.items) never r.led in
    let are : AreBlocks records blocks = subst (AreBlocks records) (sym c.in-Ok.ensures.blocks) c.count_blocks.ensures.blocks in
    let verdict : AreVerdict (ends_of ws) c.verdict.result = subst (λ (l : List (Returned WorkerEnd)). AreVerdict (ends_of l) c.verdict.result) c.deref.ensures.value c.verdict.ensures in
    let well = all_well ws (subst (AreVerdict (ends_of ws)) c.in_default-verdict.is verdict) in
    let all = all_merged (use_by c.in-Ok-run.finished) p.plan records blocks r.own r.draws ws leader.order.items (lists_of f.drawn) r.drawn.0 are c.count_blocks.ensures.short r.lists r.drawn.1 r.workers well led in
    record {
      accepted = subst (λ (q : Plan). All (IsAccepted q (header_width records)) (drop 1 records)) c.in-Ok.ensures.plan all.accepted;
      order = subst (IsOrder c.args.plan.now records) (sym (c.of.ensures ∙ ap (λ (v : Vec ℕ Global). v.items) c.into_order-list.ensures.0)) (subst (λ (q : Plan). IsOrder q records leader.order.items) c.in-Ok.ensures.plan all.is);
      row = tt;
      first = λ none. tt;
      used = subst (λ (q : Plan). IsUsed q records c.args.workers f) c.in-Ok.ensures.plan
          (record { asked = r.asked ∙ c.in-Ok.ensures.asked; numbers = r.numbers; ended = well; noticed = all_read (use_by f) p.plan records blocks r.draws ws r.workers led.errors_over; launched = r.launched; own = r.own; draws = r.draws; lists = r.lists; drawn = all.drawn; sent = all.sent });
    }
