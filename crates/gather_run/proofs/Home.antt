-- What came home where there is an answer, with a table of groups or without.
use Rattle.std.proofs.Common.{◌≡◌, ◌<◌, ◌≤◌, ◌+◌, ◌-◌, ◌*◌, ◌^◌, ◌++◌, ◌&&◌, leb, ℕ, suc, List, [], ◌∷◌, length, drop, map as map_list, All, IfSome, IsSomeAnd, Option, option_map, is_some, Some, None, refl, ap, sym, subst, ◌∙◌}
use Rattle.std.specs.List.{AllZip}
use Rattle.agg_cell.specs.Called.{Seen}
use Rattle.agg_cell.specs.Cell.{stepped}
use Rattle.agg_table.specs.Calls.{AggEntry, Group, Use}
use Rattle.agg_table.specs.Drained.{HoldsAll}
use Rattle.agg_table.specs.declared.part.HashPart.{HashPart}
use Rattle.dsa_area.specs.Shown.{AreAll}
use Rattle.dsa_area.specs.declared.area.AreaPass.{AreaPass}
use Rattle.dshash_parts.specs.Legal.{PartitionLegal}
use Rattle.dshash_parts.specs.States.{fresh}
use Rattle.agg_law.specs.Law.{Share, TableGathers}
use Rattle.lock_book.specs.History.{IsLegal, calls_by}
use Rattle.par_model.specs.Plan.{Plan}
use Rattle.partial_agg.specs.Groups.{AreGroups, GroupsByKey}
use Rattle.partial_agg.specs.Rows.{IsAccepted, header_width}
use Rattle.scan_claim.specs.Drawing.{IsDrawn, flat, late, times}
use Rattle.scan_claim.specs.Shown.{blocks_of, lists_of}
use Rattle.scan_claim.proofs.Totals.{late-append}
use Rattle.row_blocks.specs.Blocks.{AreBlocks, Table}
use Rattle.dshash_parts.specs.Ending.{IsOf, left_of, whole_of}
use Rattle.parallel_ctx.specs.Accounts.{Account, Heard, heard_of, pages_by, use_by}
use Rattle.parallel_ctx.specs.Making.{HasTable}
use Rattle.parallel_ctx.specs.Ran.{AreWhole, Ran}
use Rattle.parallel_ctx.specs.Tokens.{AreNumbered, Prepared}
use Rattle.parallel_ctx.specs.declared.home.Finished.{Finished}
use Rattle.parallel_ctx.specs.declared.home.Returned.{Returned}
use Rattle.parallel_ctx.proofs.Zips.{AllZip-length}
use Rattle.worker_run.specs.declared.WorkerEnd.{WorkerEnd}
use Rattle.worker_run.specs.Verdicts.{EndsWell}
use Rattle.gather_run.specs.Did.{DidWork}
use Rattle.gather_run.specs.Drained.{AddsAll, SameHistories}
use Rattle.gather_run.specs.Leading.{HasLed}
use Rattle.gather_run.specs.Used.{ArePasses, SentItsRows, SharedItsBlocks}
use Rattle.gather_run.proofs.Participants.{AllShared, AllTookPart, all_shared, holds_all, law_of, part_shared, workers_shared}
use Rattle.gather_run.proofs.Counting.{covers_all, few_of_draws, few_of_own, few_records, few_workers, not_none, not_true}
use Rattle.gather_run.proofs.Together.{Plain, Worker, all_drawn, all_gathered, all_sent_rows, few_drawn, plain, spent_is}

-- a table is there exactly where one was made, and shows whole histories
pub table_home : {A : Type 0} (P Q : A → Type 0) (R : HashPart → A → Type 0) (hash : Option HashPart) (o : Option A) → ((part : HashPart) → hash ≡ Some part → IsSomeAnd o (λ c. P c × Q c × R part c)) → (hash ≡ None → o ≡ None)
    → (is_some o ≡ is_some hash) × IfSome o P × IfSome o Q × IfSome o (λ c. (part : HashPart) × R part c)
table_home P Q R None None some none = (refl, tt, tt, tt)
table_home P Q R None (Some c) some none = absurd (not_none c (none refl))
table_home P Q R (Some part) None some none = absurd (some part refl)
table_home P Q R (Some part) (Some c) some none = let h = some part refl in (refl, h.0, h.1, (part, h.2))

pub same_there : {A : Type 0} (h : A → Seen) (o o' : Option A) → SameHistories (option_map h o) (option_map h o') → is_some o' ≡ is_some o
same_there h None None same = refl
same_there h None (Some d) same = absurd same
same_there h (Some c) None same = absurd same
same_there h (Some c) (Some d) same = refl

module _ {A : Type 0} (h : A → Seen) (areas : List AreaPass) where
  -- what each participant did with a table
  abbrev uses_of : Option A → ℕ → Option Use
  uses_of o n = option_map (λ c. record { turns = λ i. calls_by n (h c i); pages = pages_by areas n }) o

  abbrev uses_in : A → ℕ → Use
  uses_in c n = record { turns = λ i. calls_by n (h c i); pages = pages_by areas n }

  -- the leader led to the end, each worker that started has finished, and what they drew came home
  pub record WentWell (o : Option A) (plan : Plan) (records : Table) (blocks n : ℕ) (lists : List (List ℕ)) (own : List ℕ) (draws : List (List ℕ)) (ws : List (Returned WorkerEnd)) (groups : GroupsByKey) : Type 0 where
    pub are : AreBlocks records blocks
    pub few : length records ≤ 4194305
    pub short : length ws ≤ 64
    pub items : length plan.items ≤ 8
    pub lists_are : lists ≡ own ∷ draws
    pub drawn : IsDrawn blocks lists n
    pub numbers : AreNumbered 1 (map_list (λ (w : Returned WorkerEnd). w.number) ws)
    pub workers : AllZip (Worker (uses_of o) plan records blocks) draws ws
    pub well : All (λ (w : Returned WorkerEnd). EndsWell w.end) ws
    pub led : HasLed plan records blocks own (uses_of o 0) (map_list heard_of ws) groups
    pub whole : IfSome o (λ c. AreWhole (suc (length ws)) (h c))

  module _ (plan : Plan) (records : Table) (blocks n : ℕ) (lists : List (List ℕ)) (own : List ℕ) (draws : List (List ℕ)) (ws : List (Returned WorkerEnd)) (groups : GroupsByKey) where
    plain_workers : WentWell None plan records blocks n lists own draws ws groups → AllZip (Plain (uses_of None) plan records blocks) draws ws
    plain_workers w = plain (uses_of None) plan records blocks (λ k. refl) draws ws w.workers

    as_drawn : (o : Option A) → WentWell o plan records blocks n lists own draws ws groups → length ws ≡ length draws
    as_drawn o w = sym (AllZip-length (Worker (uses_of o) plan records blocks) draws ws w.workers)

    shared_all : (c : A) → WentWell (Some c) plan records blocks n lists own draws ws groups → AllShared plan records (uses_in c) blocks own draws groups
    shared_all c w = all_shared plan records (uses_in c) blocks own draws ws groups w.workers w.well w.numbers w.led

    whole_home : (c : A) → WentWell (Some c) plan records blocks n lists own draws ws groups → AreWhole (suc (length draws)) (h c)
    whole_home c w = subst (λ (k : ℕ). AreWhole (suc k) (h c)) (as_drawn (Some c) w) w.whole

    -- what stands in a table is what the participants put in
    pub held : (o : Option A) → WentWell o plan records blocks n lists own draws ws groups → IfSome (option_map h o) (λ history. (puts : List (List Group)) × HoldsAll history puts)
    held None w = tt
    held (Some c) w =
        let a = shared_all c w in
        (_, holds_all plan records (uses_in c) (h c) (own ∷ draws) a.shares (λ k i. refl) (whole_home c w) a.took)

    -- with it the map has the groups of all rows
    pub gathered : TableGathers → (o : Option A) → WentWell o plan records blocks n lists own draws ws groups → (last : GroupsByKey) → AddsAll (option_map h o) groups last
        → All (IsAccepted plan (header_width records)) (drop 1 records) × AreGroups plan (drop 1 records) last
    gathered law None w last added =
        let all = all_gathered (uses_of None) plan records blocks own draws ws groups lists n w.are w.few w.lists_are w.drawn (plain_workers w) w.well w.led in
        (all.0, subst (AreGroups plan (drop 1 records)) (sym added) all.1)
    gathered law (Some c) w last added =
        let drawn : IsDrawn blocks (own ∷ draws) n = subst (λ l. IsDrawn blocks l n) w.lists_are w.drawn in
        let some = spent_is (uses_of (Some c)) plan records blocks own w.led.spent in
        let lates = late-append blocks own (flat draws) in
        let past : late blocks (own ++ flat draws) ≡ n - blocks = drawn.past in
        law_of plan records (uses_in c) law (h c) own draws blocks groups last n (λ k i. refl) (whole_home c w) (shared_all c w) added drawn.once (covers_all (length records) n blocks (late blocks own) (late blocks (flat draws)) (late blocks (own ++ flat draws)) some lates past w.are.all) (few_records (length records) w.few) w.items

    -- ---- how the rows were used

    -- by a table that shows the same histories
    pub record Tells (o : Option A) : Type 0 where
      pub drawn : (b : ℕ) → 256 * b + 1 < length records → times b (flat lists) ≡ 1
      pub shared_own : IfSome (uses_of o 0) (SharedItsBlocks plan records own)
      pub shared : AllZip (λ ds (w : Returned WorkerEnd). IfSome (uses_of o w.number) (SharedItsBlocks plan records ds)) draws ws
      pub sent : o ≡ None → AllZip (SentItsRows plan records) draws ws

    nothing_shared : (dss : List (List ℕ)) (vs : List (Returned WorkerEnd)) → AllZip (Plain (uses_of None) plan records blocks) dss vs → AllZip (λ ds (w : Returned WorkerEnd). IfSome (uses_of None w.number) (SharedItsBlocks plan records ds)) dss vs
    nothing_shared [] [] f = tt
    nothing_shared [] (v ∷ vs) f = absurd f
    nothing_shared (ds ∷ dss) [] f = absurd f
    nothing_shared (ds ∷ dss) (v ∷ vs) f = (tt, nothing_shared dss vs f.1)

    pub tells : (o o' : Option A) → WentWell o plan records blocks n lists own draws ws groups → SameHistories (option_map h o) (option_map h o') → Tells o'
    tells None None w same =
        let few = few_drawn (uses_of None) plan records blocks own lists draws n w.are w.few (few_workers (length ws) (length draws) (as_drawn None w) w.short) w.lists_are w.drawn in
        record {
          drawn = all_drawn (uses_of None) plan records blocks own lists draws n w.are w.lists_are w.drawn w.led.spent;
          shared_own = tt;
          shared = nothing_shared draws ws (plain_workers w);
          sent = λ e. all_sent_rows (uses_of None) plan records blocks draws ws (few_of_draws (length own) (length (flat draws)) few) (plain_workers w) w.well w.led.over;
        }
    tells None (Some d) w same = absurd same
    tells (Some c) None w same = absurd same
    tells (Some c) (Some d) w same =
        let a = shared_all c w in
        by a.shares a.took (few_drawn (uses_of (Some c)) plan records blocks own lists draws n w.are w.few (few_workers (length ws) (length draws) (as_drawn (Some c) w) w.short) w.lists_are w.drawn)
      where
        turns : (k i : ℕ) → calls_by k (h d i) ≡ calls_by k (h c i)
        turns k i = ap (calls_by k) (same i)

        by : (shares : List Share) → AllTookPart plan records (uses_in c) 0 (own ∷ draws) shares → length own + length (flat draws) < 2 ^ 50 → Tells (Some d)
        by [] t few = absurd t
        by (s ∷ shares) t few = record {
          drawn = all_drawn (uses_of (Some c)) plan records blocks own lists draws n w.are w.lists_are w.drawn w.led.spent;
          shared_own = part_shared plan records own (uses_in c 0) (uses_in d 0) s (few_of_own (length own) (length (flat draws)) few) (λ i. turns 0 i) refl t.0;
          shared = workers_shared plan records (uses_in c) (uses_in d) (λ k i. turns k i) (λ k. refl) 1 draws shares ws (few_of_draws (length own) (length (flat draws)) few) (as_drawn (Some c) w) t.1 w.numbers;
          sent = λ e. absurd (not_none d e);
        }

-- the same of a run
pub ran_well : {L : Type 0} (leads : Plan → ℕ → List ℕ → Option Use → List Heard → L → Type 0) (p : Prepared) (f : Finished WorkerEnd) (lead : L) (records : Table) (groups : GroupsByKey)
    → (r : Ran (λ plan blocks account end. DidWork plan records blocks account end) leads p f lead) → HasLed p.plan records (blocks_of p.shared.claims) r.own (use_by f 0) (map_list heard_of f.workers.items) groups
    → AreBlocks records (blocks_of p.shared.claims) → length records ≤ 4194305 → length f.workers.items ≤ 64 → length p.plan.items ≤ 8 → All (λ (w : Returned WorkerEnd). EndsWell w.end) f.workers.items
    → WentWell (λ c. whole_of c) f.areas.items f.table p.plan records (blocks_of p.shared.claims) r.drawn.0 (lists_of f.drawn) r.own r.draws f.workers.items groups
ran_well leads p f lead records groups r led are few short items well = record {
  are = are;
  few = few;
  short = short;
  items = items;
  lists_are = r.lists;
  drawn = r.drawn.1;
  numbers = r.numbers;
  workers = r.workers;
  well = well;
  led = led;
  whole = subst (λ k. IfSome f.table (λ c. AreWhole (suc k) (whole_of c))) (sym r.asked)
      (table_home (λ c. AreWhole (suc (length p.hands)) (whole_of c)) (λ c. left_of c ≡ 128) (λ part c. IsOf p.shared.region part.table c) p.shared.hash f.table r.table (λ e. (r.no_table e).0)).1;
}

-- the table that came home is the one that was made, whole, and there where one was made
pub ran_home : {L : Type 0} (did : Plan → ℕ → Account → WorkerEnd → Type 0) (leads : Plan → ℕ → List ℕ → Option Use → List Heard → L → Type 0) (p : Prepared) (f : Finished WorkerEnd) (lead : L) → Ran did leads p f lead
    → (is_some f.table ≡ is_some p.shared.hash) × IfSome f.table (λ c. left_of c ≡ 128) × IfSome f.table (λ c. (part : HashPart) × IsOf f.region part.table c)
ran_home did leads p f lead r =
    let home = table_home (λ c. AreWhole (suc (length p.hands)) (whole_of c)) (λ c. left_of c ≡ 128) (λ part c. IsOf p.shared.region part.table c) p.shared.hash f.table r.table (λ e. (r.no_table e).0) in
    (home.0, home.2, subst (λ region. IfSome f.table (λ c. (part : HashPart) × IsOf region part.table c)) (sym r.region) home.3)

-- its histories are whole as those that it showed before
pub whole_after : {A : Type 0} (h : A → Seen) (o o' : Option A) (n : ℕ) → SameHistories (option_map h o) (option_map h o') → IfSome o (λ c. AreWhole n (h c)) → IfSome o' (λ c. AreWhole n (h c))
whole_after h None None n same w = tt
whole_after h None (Some d) n same w = absurd same
whole_after h (Some c) None n same w = absurd same
whole_after h (Some c) (Some d) n same w = record { lawful = λ i l. subst (λ (es : List AggEntry). IsLegal (λ _. PartitionLegal stepped i) fresh es) (sym (same i)) (w.lawful i l); no_others = λ i m l. ap (calls_by m) (same i) ∙ w.no_others i m l }

-- the passes of its area came home
pub passes_home : {A : Type 0} (hash : Option HashPart) (o : Option A) (n : ℕ) (areas : List AreaPass) → is_some o ≡ is_some hash → ((part : HashPart) → hash ≡ Some part → (length areas ≡ n) × AreAll part.area areas) → IfSome o (λ c. ArePasses n areas)
passes_home None None n areas e f = tt
passes_home None (Some c) n areas e f = absurd (not_true e)
passes_home (Some part) None n areas e f = tt
passes_home (Some part) (Some c) n areas e f = let all = f part refl in record { count = all.0; of_one = (part.area, all.1) }

-- a table was made exactly where the plan asks for it and its area has room for it
pub made_where : (plan : Plan) (pages : ℕ) (o : Option HashPart) → HasTable plan pages o → is_some o ≡ (plan.hash && leb 16 pages)
made_where plan pages None h = sym h
made_where plan pages (Some part) h = sym h.0
