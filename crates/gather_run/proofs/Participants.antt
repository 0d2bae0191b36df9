-- What the leader and the workers did with a table of groups, put together.
use Rattle.std.proofs.Common.{◌≡◌, ◌<◌, ◌≤◌, ◌+◌, ◌*◌, ◌^◌, ◌++◌, ℕ, zero, suc, List, [], ◌∷◌, length, drop, fold, slice_get, map as map_list, All, Any, MatchOption, Option, Some, None, refl, ap, sym, subst, ◌∙◌, true, arith, length-append}
use Rattle.std.specs.FinMap as map
use Rattle.std.specs.List.{AllZip, flat_map}
use Rattle.std.specs.List.Sorted.{IsPermutation}
use Rattle.std.proofs.lemmas.List.{length-map}
use Rattle.std.proofs.lemmas.List.Concat.{flat_map-append}
use Rattle.std.proofs.lemmas.List.Elements.{All-head, All-nil, All-tail, All-weaker}
use Rattle.agg_cell.specs.Called.{Seen}
use Rattle.agg_table.specs.Calls.{AggEntry, HasPut, IsKeyed, Use, WasMissed, WasTurnedAway, calls_at, done_in, longest_chain, partition_at}
use Rattle.dshash_parts.specs.Done.{IsMissing, IsTurnedAway, lacks}
use Rattle.dshash_parts.proofs.Causes.{causes_kept}
use Rattle.agg_table.specs.Drained.{AddsTable, HoldsAll}
use Rattle.agg_table.proofs.Putting.{has_put_nothing}
use Rattle.dshash_core.specs.Key.{packed_key}
use Rattle.agg_law.specs.Law.{Share, Shares, TableGathers}
use Rattle.lock_book.specs.History.{calls_by}
use Rattle.mq_handle.specs.Messages.{whole_of}
use Rattle.par_model.specs.Plan.{Plan}
use Rattle.partial_agg.specs.Groups.{AreGroups, GroupsByKey, added, with_rows}
use Rattle.partial_agg.specs.Rows.{IsAccepted, header_width}
use Rattle.row_blocks.specs.Blocks.{Table, block_rows, rows_of_blocks}
use Rattle.partial_agg.proofs.Adding.{maps_grow, no_groups}
use Rattle.scan_claim.specs.Drawing.{flat, once_below, times}
use Rattle.gather_law.specs.Parts.{Block, Part, Received, blocks_in, received_in, with_all, with_part}
use Rattle.gather_law.specs.Tuples.{Group, groups_of}
use Rattle.row_blocks.proofs.Elements.{All-apart}
use Rattle.parallel_ctx.specs.Accounts.{Heard, IsIdle, account_of, heard_of}
use Rattle.parallel_ctx.specs.Ran.{AreWhole}
use Rattle.parallel_ctx.specs.Tokens.{AreNumbered}
use Rattle.parallel_ctx.specs.declared.home.Returned.{Returned}
use Rattle.worker_run.specs.Tabled.{groups_of_batches}
use Rattle.worker_run.specs.declared.WorkerEnd.{WorkerEnd}
use Rattle.worker_run.specs.declared.WorkerEnd.TheVariants.{Finished, Stopped, Refused, NoMemory}
use Rattle.gather_run.specs.Did.{DidWork}
use Rattle.worker_run.specs.Verdicts.{EndsWell}
use Rattle.gather_run.specs.Leading.{HasLed}
use Rattle.gather_run.specs.Reading.{ReadAs}
use Rattle.gather_run.specs.Used.{AreBatchGroups, SharedItsBlocks}
use Rattle.gather_run.proofs.Counting.{as_many_left, at_first, at_next, few_behind, few_in_front, few_in_sum, few_more, few_of_rows, few_past_sum, from_none, no_first, none_left, nothing_at, past_all, some_same}
use Rattle.gather_run.proofs.Together.{Worker, no_groups_read, rows_few, same_groups}

-- the map after groups alone is that of these groups
groups_alone : (plan : Plan) (records : Table) (parts : List Part) (m : GroupsByKey) → blocks_in parts ≡ [] → fold (with_part plan records) m parts ≡ with_all m (received_in parts)
groups_alone plan records [] m e = refl
groups_alone plan records (Block b ∷ parts) m e = absurd (no_first b (blocks_in parts) e)
groups_alone plan records (Received g ∷ parts) m e = groups_alone plan records parts (added m g.0 g.1) e

flat_of : {A B : Type 0} (f : A → List B) (xs : List A) → flat_map (λ l. l) (map_list f xs) ≡ flat_map f xs
flat_of f [] = refl
flat_of f (x ∷ xs) = ap (λ l. f x ++ l) (flat_of f xs)

flat_through : {A B C : Type 0} (f : A → B) (g : B → List C) (xs : List A) → flat_map g (map_list f xs) ≡ flat_map (λ x. g (f x)) xs
flat_through f g [] = refl
flat_through f g (x ∷ xs) = ap (λ l. g (f x) ++ l) (flat_through f g xs)

-- what a participant did is the same by histories that are the same
same_put : (groups put left : List Group) (u v : Use) → ((i : ℕ) → v.turns i ≡ u.turns i) → v.pages ≡ u.pages → HasPut groups u put left → HasPut groups v put left
same_put groups put left u v turns pages h = record {
  all = h.all;
  keyed = h.keyed;
  done = λ i. ap done_in (turns i) ∙ h.done i;
  missed = All-weaker (WasMissed u.turns) (WasMissed v.turns) (λ g m. subst (Any (λ (e : AggEntry). IsMissing (packed_key g.0) g.1 e.call e.reply)) (sym (turns (partition_at g))) m) left h.missed;
  causes = causes_kept (WasTurnedAway u.turns) (WasTurnedAway v.turns)
      (λ g m. subst (Any (λ (e : AggEntry). IsTurnedAway longest_chain (packed_key g.0) g.1 e.call e.reply)) (sym (turns (partition_at g))) m)
      left (lacks u.pages) (lacks v.pages) h.causes (let same : lacks v.pages ≡ lacks u.pages = ap lacks pages in omega (arith, same));
}

module _ (plan : Plan) (records : Table) where
  -- a participant that drew these numbers shared out the groups of its blocks, in batches
  pub record TookPart (draws : List ℕ) (u : Use) (s : Share) : Type 0 where
    pub batches : List (List ℕ)
    pub cut : flat batches ≡ draws
    pub has : HasPut (groups_of_batches plan records batches) u s.put s.left
    pub accepted : All (IsAccepted plan (header_width records)) (rows_of_blocks records draws)

  -- ---- what is said of it

  -- the rows of batches, one behind the other
  batch_rows : (batches : List (List ℕ)) → flat_map (λ (rows : Table). rows) (map_list (rows_of_blocks records) batches) ≡ rows_of_blocks records (flat batches)
  batch_rows [] = refl
  batch_rows (blocks ∷ batches) = ap (λ (rows : Table). rows_of_blocks records blocks ++ rows) (batch_rows batches) ∙ sym (flat_map-append (block_rows records) blocks (flat batches))

  as_shares : (draws : List ℕ) (u : Use) (s : Share) → TookPart draws u s → Shares plan (header_width records) records draws s
  as_shares draws u s t = record {
    batches = map_list (rows_of_blocks records) t.batches;
    cut = batch_rows t.batches ∙ ap (rows_of_blocks records) t.cut;
    sent = subst (λ (gs : List Group). IsPermutation gs (s.put ++ s.left)) (sym (flat_through (rows_of_blocks records) (groups_of plan) t.batches)) t.has.all;
    accepted = t.accepted;
  }

  batch_groups : (blocks : List ℕ) → All (IsAccepted plan (header_width records)) (rows_of_blocks records blocks) → length (rows_of_blocks records blocks) < 2 ^ 63 → AreBatchGroups plan records blocks (groups_of plan (rows_of_blocks records blocks))
  batch_groups blocks h few = record {
    whole = with_rows plan map.empty (rows_of_blocks records blocks);
    are = maps_grow plan (header_width records) [] (rows_of_blocks records blocks) map.empty (All-nil (IsAccepted plan (header_width records))) h (few_more (length (rows_of_blocks records blocks)) few) (no_groups plan);
    listed = refl;
  }

  all_batch_groups : (batches : List (List ℕ)) → All (IsAccepted plan (header_width records)) (rows_of_blocks records (flat batches)) → length (rows_of_blocks records (flat batches)) < 2 ^ 63
      → AllZip (AreBatchGroups plan records) batches (map_list (λ blocks. groups_of plan (rows_of_blocks records blocks)) batches)
  all_batch_groups [] h few = tt
  all_batch_groups (blocks ∷ batches) h few =
      let mine = rows_of_blocks records blocks in
      let rest = rows_of_blocks records (flat batches) in
      let cut = flat_map-append (block_rows records) blocks (flat batches) in
      let both = All-apart (IsAccepted plan (header_width records)) mine rest (subst (All (IsAccepted plan (header_width records))) cut h) in
      let long = ap (length {A = List (List ℕ)}) cut ∙ length-append mine rest in (
        batch_groups blocks both.0 (few_in_sum (length mine) (length rest) (length (rows_of_blocks records (blocks ++ flat batches))) long few),
        all_batch_groups batches both.1 (few_past_sum (length mine) (length rest) (length (rows_of_blocks records (blocks ++ flat batches))) long few),
      )

  pub part_shared : (draws : List ℕ) (u v : Use) (s : Share) → length draws < 2 ^ 50 → ((i : ℕ) → v.turns i ≡ u.turns i) → v.pages ≡ u.pages → TookPart draws u s → SharedItsBlocks plan records draws v
  part_shared draws u v s few turns pages t =
      let rows : length (rows_of_blocks records draws) < 2 ^ 63 = few_of_rows (length (rows_of_blocks records draws)) (length draws) (rows_few records draws) few in
      record {
        batches = t.batches;
        cut = t.cut;
        groups = map_list (λ blocks. groups_of plan (rows_of_blocks records blocks)) t.batches;
        are = all_batch_groups t.batches (subst (λ (ds : List ℕ). All (IsAccepted plan (header_width records)) (rows_of_blocks records ds)) (sym t.cut) t.accepted)
            (subst (λ (ds : List ℕ). length (rows_of_blocks records ds) < 2 ^ 63) (sym t.cut) rows);
        put = s.put;
        left = s.left;
        has = subst (λ gs. HasPut gs v s.put s.left) (sym (flat_of (λ blocks. groups_of plan (rows_of_blocks records blocks)) t.batches)) (same_put (groups_of_batches plan records t.batches) s.put s.left u v turns pages t.has);
      }

  -- ---- all participants, in order of their numbers

  module _ (uses : ℕ → Use) where
    abbrev pub AllTookPart : ℕ → List (List ℕ) → List Share → Type 0
    AllTookPart n [] [] = Unit {0}
    AllTookPart n [] (s ∷ shares) = ⊥
    AllTookPart n (ds ∷ draws) [] = ⊥
    AllTookPart n (ds ∷ draws) (s ∷ shares) = TookPart ds (uses n) s × AllTookPart (suc n) draws shares

    pub as_many : (n : ℕ) (draws : List (List ℕ)) (shares : List Share) → AllTookPart n draws shares → length shares ≡ length draws
    as_many n [] [] t = refl
    as_many n [] (s ∷ shares) t = absurd t
    as_many n (ds ∷ draws) [] t = absurd t
    as_many n (ds ∷ draws) (s ∷ shares) t = ap suc (as_many (suc n) draws shares t.1)

    all_share : (n : ℕ) (draws : List (List ℕ)) (shares : List Share) → AllTookPart n draws shares → AllZip (Shares plan (header_width records) records) draws shares
    all_share n [] [] t = tt
    all_share n [] (s ∷ shares) t = absurd t
    all_share n (ds ∷ draws) [] t = absurd t
    all_share n (ds ∷ draws) (s ∷ shares) t = (as_shares ds (uses n) s t.0, all_share (suc n) draws shares t.1)

    abbrev puts_of : List Share → List (List Group)
    puts_of shares = map_list (λ (s : Share). s.put) shares

    keyed_of : (n : ℕ) (draws : List (List ℕ)) (shares : List Share) → AllTookPart n draws shares → (k : ℕ) (put : List Group) → slice_get (puts_of shares) k ≡ Some put → All IsKeyed put
    keyed_of n [] [] t k put e = absurd (nothing_at k put e)
    keyed_of n [] (s ∷ shares) t k put e = absurd t
    keyed_of n (ds ∷ draws) [] t k put e = absurd t
    keyed_of n (ds ∷ draws) (s ∷ shares) t zero put e = subst (All IsKeyed) (some_same s.put put e) t.0.has.keyed
    keyed_of n (ds ∷ draws) (s ∷ shares) t (suc k) put e = keyed_of (suc n) draws shares t.1 k put e

    done_of : (n : ℕ) (draws : List (List ℕ)) (shares : List Share) → AllTookPart n draws shares → (k m i : ℕ) (put : List Group) → m ≡ n + k → slice_get (puts_of shares) k ≡ Some put → done_in ((uses m).turns i) ≡ calls_at i put
    done_of n [] [] t k m i put at e = absurd (nothing_at k put e)
    done_of n [] (s ∷ shares) t k m i put at e = absurd t
    done_of n (ds ∷ draws) [] t k m i put at e = absurd t
    done_of n (ds ∷ draws) (s ∷ shares) t zero m i put at e =
        let same : m ≡ n = at_first m n at in
        subst (λ j. done_in ((uses j).turns i) ≡ calls_at i put) (sym same) (t.0.has.done i ∙ ap (calls_at i) (some_same s.put put e))
    done_of n (ds ∷ draws) (s ∷ shares) t (suc k) m i put at e = done_of (suc n) draws shares t.1 k m i put (at_next m n k at) e

    pub holds_all : (history : Seen) (draws : List (List ℕ)) (shares : List Share) → ((n i : ℕ) → (uses n).turns i ≡ calls_by n (history i)) → AreWhole (length draws) history → AllTookPart 0 draws shares → HoldsAll history (puts_of shares)
    holds_all history draws shares turns whole t =
        let long = length-map shares (λ (s : Share). s.put) in
        let many = as_many 0 draws shares t in
        record {
          lawful = whole.lawful;
          keyed = keyed_of 0 draws shares t;
          done = λ k i put e within. ap done_in (sym (turns k i)) ∙ done_of 0 draws shares t k k i put (from_none k) e;
          no_others = λ k i h within. whole.no_others i k (past_all (length (puts_of shares)) (length shares) (length draws) k long many h);
        }

    -- ---- what was sent

    -- the shares of the workers, by what was received of them
    pub record HaveShares (n : ℕ) (draws : List (List ℕ)) (taken : List (List Group)) : Type 0 where
      pub shares : List Share
      pub took : AllTookPart n draws shares
      pub left : flat_map (λ (s : Share). s.left) shares ≡ flat_map (λ gs. gs) taken

    module _ (blocks : ℕ) where
      abbrev Tabled : List ℕ → Returned WorkerEnd → Type 0
      Tabled draws r = Worker (λ n. Some (uses n)) plan records blocks draws r

      -- a worker that finished or did not start
      one_part : (draws : List ℕ) (r : Returned WorkerEnd) (gs : List Group) → Tabled draws r → EndsWell r.end → (heard_of r).tuples_over ≡ true → ReadAs (heard_of r).tuples gs
          → (put : List Group) × TookPart draws (uses r.number) (record { put = put; left = gs })
      one_part draws r gs f well over read =
          by r.end f.done well
        where
          u : Use
          u = uses r.number

          all : whole_of r.tuples.receiver.taken ≡ whole_of r.tuples.sender.put
          all = f.tuples.all over

          by : (end : Option WorkerEnd) → MatchOption end (IsIdle (account_of (λ n. Some (uses n)) draws r)) (λ e. DidWork plan records blocks (account_of (λ n. Some (uses n)) draws r) e) → EndsWell end
              → (put : List Group) × TookPart draws u (record { put = put; left = gs })
          by None d w =
              let none : gs ≡ [] = no_groups_read gs (subst (λ ms. ReadAs ms gs) (all ∙ d.tuples) read) in (
                [],
                subst (λ ds. TookPart ds u (record { put = []; left = gs })) (sym d.draws)
                    (record { batches = []; cut = refl; has = subst (λ l. HasPut [] u [] l) (sym none) (has_put_nothing u d.used); accepted = All-nil (IsAccepted plan (header_width records)) }),
              )
          by (Some Finished) d w =
              let t = d.ended in
              let same : gs ≡ t.left = same_groups plan t.left gs (subst (λ ms. ReadAs ms gs) (all ∙ t.sent) read) t.written in
              (t.put, record { batches = t.batches; cut = t.cut; has = subst (λ l. HasPut (groups_of_batches plan records t.batches) u t.put l) (sym same) t.has; accepted = t.accepted })
          by (Some Stopped) d w = absurd w
          by (Some (Refused row cause item)) d w = absurd w
          by (Some NoMemory) d w = absurd w

      pub all_parts : (n : ℕ) (draws : List (List ℕ)) (ws : List (Returned WorkerEnd)) (taken : List (List Group)) → AllZip Tabled draws ws → All (λ (w : Returned WorkerEnd). EndsWell w.end) ws
          → All (λ (h : Heard). h.tuples_over ≡ true) (map_list heard_of ws) → AllZip ReadAs (map_list (λ (h : Heard). h.tuples) (map_list heard_of ws)) taken → AreNumbered n (map_list (λ (w : Returned WorkerEnd). w.number) ws)
          → HaveShares n draws taken
      all_parts n [] [] [] f w o r k = record { shares = []; took = tt; left = refl }
      all_parts n [] [] (gs ∷ taken) f w o r k = absurd r
      all_parts n [] (v ∷ ws) taken f w o r k = absurd f
      all_parts n (ds ∷ draws) [] taken f w o r k = absurd f
      all_parts n (ds ∷ draws) (v ∷ ws) [] f w o r k = absurd r
      all_parts n (ds ∷ draws) (v ∷ ws) (gs ∷ taken) f w o r k =
          let one = one_part ds v gs f.0 (All-head (λ (w : Returned WorkerEnd). EndsWell w.end) v ws w) (All-head (λ (h : Heard). h.tuples_over ≡ true) (heard_of v) (map_list heard_of ws) o) r.0 in
          let more = all_parts (suc n) draws ws taken f.1 (All-tail (λ (w : Returned WorkerEnd). EndsWell w.end) v ws w) (All-tail (λ (h : Heard). h.tuples_over ≡ true) (heard_of v) (map_list heard_of ws) o) r.1 k.1 in
          let s : Share = record { put = one.0; left = gs } in
          record { shares = s ∷ more.shares; took = (subst (λ j. TookPart ds (uses j) s) k.0 one.1, more.took); left = ap (λ l. gs ++ l) more.left }

      -- ---- the leader with them

      -- the shares of all participants, by what the leader has in its map
      pub record AllShared (own : List ℕ) (draws : List (List ℕ)) (groups : GroupsByKey) : Type 0 where
        pub shares : List Share
        pub took : AllTookPart 0 (own ∷ draws) shares
        pub kept : List Group
        pub map_is : groups ≡ with_all map.empty kept
        pub left : IsPermutation kept (flat_map (λ (s : Share). s.left) shares)

      pub all_shared : (own : List ℕ) (draws : List (List ℕ)) (ws : List (Returned WorkerEnd)) (groups : GroupsByKey) → AllZip Tabled draws ws → All (λ (w : Returned WorkerEnd). EndsWell w.end) ws
          → AreNumbered 1 (map_list (λ (w : Returned WorkerEnd). w.number) ws) → HasLed plan records blocks own (Some (uses 0)) (map_list heard_of ws) groups → AllShared own draws groups
      all_shared own draws ws groups f w k led =
          let l = led.leading in
          let more = all_parts 1 draws ws l.taken f w led.over l.read k in
          let s : Share = record { put = l.own.put; left = l.left } in
          record {
            shares = s ∷ more.shares;
            took = (record { batches = l.own.batches; cut = l.own.cut; has = l.own.has; accepted = l.accepted }, more.took);
            kept = received_in l.parts;
            map_is = l.map_is ∙ groups_alone plan records l.parts map.empty l.own.none;
            left = subst (λ gs. IsPermutation (received_in l.parts) (l.left ++ gs)) (sym more.left) l.received;
          }

    pub law_of : TableGathers → (history : Seen) (own : List ℕ) (draws : List (List ℕ)) (blocks : ℕ) (groups last : GroupsByKey) (n : ℕ) → ((k i : ℕ) → (uses k).turns i ≡ calls_by k (history i)) → AreWhole (suc (length draws)) history
        → AllShared blocks own draws groups → AddsTable history groups last → ((x : ℕ) → times x (flat (own ∷ draws)) ≡ once_below x n) → length records ≤ 256 * n + 1 → length records < 2 ^ 63 → length plan.items ≤ 8
        → All (IsAccepted plan (header_width records)) (drop 1 records) × AreGroups plan (drop 1 records) last
    law_of law history own draws blocks groups last n turns whole a added once all few items =
        law plan (header_width records) records (own ∷ draws) a.shares history a.kept last n
        (record {
          shared = all_share 0 (own ∷ draws) a.shares a.took;
          table = holds_all history (own ∷ draws) a.shares turns whole a.took;
          all_left = a.left;
          added = subst (λ (m : GroupsByKey). AddsTable history m last) a.map_is added;
        })
        once all few items

    -- ---- what is said of all

    pub workers_shared : (vs : ℕ → Use) → ((n i : ℕ) → (vs n).turns i ≡ (uses n).turns i) → ((n : ℕ) → (vs n).pages ≡ (uses n).pages) → (n : ℕ) (draws : List (List ℕ)) (shares : List Share) (ws : List (Returned WorkerEnd))
        → length (flat draws) < 2 ^ 50 → length ws ≡ length draws → AllTookPart n draws shares → AreNumbered n (map_list (λ (w : Returned WorkerEnd). w.number) ws)
        → AllZip (λ ds (w : Returned WorkerEnd). SharedItsBlocks plan records ds (vs w.number)) draws ws
    workers_shared vs turns pages n [] [] [] few long t k = tt
    workers_shared vs turns pages n [] [] (w ∷ ws) few long t k = absurd (none_left (length ws) long)
    workers_shared vs turns pages n [] (s ∷ shares) ws few long t k = absurd t
    workers_shared vs turns pages n (ds ∷ draws) [] ws few long t k = absurd t
    workers_shared vs turns pages n (ds ∷ draws) (s ∷ shares) [] few long t k = absurd (none_left (length draws) (sym long))
    workers_shared vs turns pages n (ds ∷ draws) (s ∷ shares) (w ∷ ws) few long t k =
        let sum = length-append ds (flat draws) in (
          subst (λ j. SharedItsBlocks plan records ds (vs j)) (sym k.0) (part_shared ds (uses n) (vs n) s (few_in_front (length ds) (length (flat draws)) (length (ds ++ flat draws)) sum few) (turns n) (pages n) t.0),
          workers_shared vs turns pages (suc n) draws shares ws (few_behind (length ds) (length (flat draws)) (length (ds ++ flat draws)) sum few) (as_many_left (length ws) (length draws) long) t.1 k.1,
        )
