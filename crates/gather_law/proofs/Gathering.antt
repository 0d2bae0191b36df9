-- The law: the map of the leader is that of one pass over all rows.
use Rattle.std.proofs.Common.{◌≡◌, ◌<◌, ◌≤◌, ◌+◌, ◌*◌, ◌^◌, ◌++◌, ◌&&◌, ℕ, Bool, true, false, List, [], ◌∷◌, length, not, filter, fold, map, drop, All, refl, ap, sym, subst, ◌∙◌, arith, length-append, append-nil, append_assoc, bytes_eq, T}
use Rattle.std.specs.FinMap as fin
use Rattle.std.specs.List.{AllZip, flat_map}
use Rattle.std.specs.List.Sorted.{IsPermutation}
use Rattle.std.proofs.lemmas.List.Filters.{length-filter_both}
use Rattle.std.proofs.lemmas.List.Concat.{flat_map-append}
use Rattle.std.proofs.lemmas.List.Elements.{All-append, All-filter, All-nil, filter-append, filter_passes}
use Rattle.std.proofs.lemmas.List.Sorted.{All-permutation, IsPermutation-append, IsPermutation-append_right, IsPermutation-cons, IsPermutation-map, IsPermutation-middle, IsPermutation-refl, IsPermutation-sym, IsPermutation-trans, length_permutation}
use Rattle.scan_claim.specs.Drawing.{flat, once_below, times, below}
use Rattle.par_model.specs.Keep.{is_kept}
use Rattle.par_model.specs.Plan.{Plan}
use Rattle.partial_agg.specs.Groups.{AreGroups, GroupsByKey, added, group_of, key_cmp, with_row, with_rows}
use Rattle.partial_agg.specs.Rows.{IsAccepted}
use Rattle.row_blocks.specs.Blocks.{Table, block_rows, rows_of_blocks}
use Rattle.partial_agg.proofs.Adding.{grouped, maps_grow, no_groups}
use Rattle.partial_agg.proofs.Joining.{maps_add}
use Rattle.partial_agg.proofs.AnyOrder.{in_any_order}
use Rattle.gather_law.specs.Tuples.{AreTuples, Group, groups_of}
use Rattle.gather_law.specs.Parts.{Part, Block, Received, after, blocks_in, received_in, with_all, with_part}
use Rattle.gather_law.specs.Law.{AreSent, CombineTo, GathersAll, IsGathered, TuplesCombine}
use Rattle.row_blocks.proofs.Permute.{AllZip-join, Paired, along, flat_map-permutation, goes_along, same-permutation}
use Rattle.row_blocks.proofs.Draws.{drawn_are_below}
use Rattle.row_blocks.proofs.BlockRows.{rows_all}
use Rattle.row_blocks.proofs.Elements.{All-apart}
use Rattle.gather_law.proofs.Keys.{StandsFor, filter_through, filter_twice, shared}

true_of : (b : Bool) → T b → b ≡ true
true_of true h = refl
true_of false h = absurd h

module _ (plan : Plan) (width : ℕ) (records : Table) where
  abbrev Accepted : Table → Type 0
  Accepted rows = All (IsAccepted plan width) rows

  abbrev kept : Table → Table
  kept rows = filter (is_kept plan) rows

  not_kept : (q : List ℕ) (row : List (List ℕ)) → is_kept plan row ≡ false → (is_kept plan row && bytes_eq (Rattle.par_model.specs.Key.key_of plan row) q) ≡ false
  not_kept q row e = rw e refl

  kept_group : (rows : Table) (q : List ℕ) → group_of plan (kept rows) q ≡ group_of plan rows q
  kept_group rows q = ap (grouped plan) (filter_through (is_kept plan) (λ row. is_kept plan row && bytes_eq (Rattle.par_model.specs.Key.key_of plan row) q) (not_kept q) rows)

  -- ---- a map that grows by parts

  -- a part covers some rows
  abbrev Covers : Part → Table → Type 0
  Covers (Block b) rows = rows ≡ kept (block_rows records b)
  Covers (Received g) rows = StandsFor plan g rows

  one_part : (p : Part) (rows xs : Table) (m : GroupsByKey) → Covers p rows → Accepted xs → Accepted rows → length xs + length rows < 2 ^ 64
      → AreGroups plan xs m → AreGroups plan (xs ++ rows) (with_part plan records m p)
  one_part (Block b) rows xs m covers h k fits are =
      subst (AreGroups plan (xs ++ rows)) (ap (fold (with_row plan) m) (ap kept covers ∙ filter_twice (is_kept plan) (block_rows records b)))
      (maps_grow plan width xs rows m h k fits are)
  one_part (Received g) rows xs m covers h k fits are = maps_add plan width xs rows m g.0 g.1 h k fits are covers

  grows : (parts : List Part) (lists : List Table) (xs : Table) (m : GroupsByKey) → AllZip Covers parts lists → Accepted xs → Accepted (flat_map (λ l. l) lists)
      → length xs + length (flat_map (λ l. l) lists) < 2 ^ 64 → AreGroups plan xs m → AreGroups plan (xs ++ flat_map (λ l. l) lists) (fold (with_part plan records) m parts)
  grows [] [] xs m z h k fits are = subst (λ l. AreGroups plan l m) (sym (append-nil xs)) are
  grows [] (rows ∷ lists) xs m z h k fits are = absurd z
  grows (p ∷ parts) [] xs m z h k fits are = absurd z
  grows (p ∷ parts) (rows ∷ lists) xs m z h k fits are =
      let rest = flat_map (λ l. l) lists in
      let both_are = All-apart (IsAccepted plan width) rows rest k in
      let long = length-append rows rest in
      let long' = length-append xs rows in
      subst (λ l. AreGroups plan l (fold (with_part plan records) (with_part plan records m p) parts)) (append_assoc xs rows rest)
      (grows parts lists (xs ++ rows) (with_part plan records m p) z.1 (All-append (IsAccepted plan width) xs rows h both_are.0) both_are.1 (omega (arith, long, long', fits))
      (one_part p rows xs m z.0 h both_are.0 (omega (arith, long, fits)) are))

  -- ---- what a worker sent

  abbrev Stand : List Group → Table → Type 0
  Stand groups rows = Paired (StandsFor plan) groups rows

  join_stands : (gs hs : List Group) (xs ys : Table) → Stand gs xs → Stand hs ys → Stand (gs ++ hs) (xs ++ ys)
  join_stands gs hs xs ys a b = record {
    lists = a.lists ++ b.lists;
    each = AllZip-join (StandsFor plan) gs hs a.lists b.lists a.each b.each;
    same = same-permutation (xs ++ ys) (flat_map (λ l. l) a.lists ++ flat_map (λ l. l) b.lists) (flat_map (λ l. l) (a.lists ++ b.lists))
        (sym (flat_map-append (λ l. l) a.lists b.lists))
        (IsPermutation-append xs (flat_map (λ l. l) a.lists) ys (flat_map (λ l. l) b.lists) a.same b.same);
  }

  pub one_batch : (batch : Table) → Accepted batch → length batch < 2 ^ 64 → Stand (groups_of plan batch) (kept batch)
  one_batch batch h fits =
      let m = with_rows plan fin.empty batch in
      let are = maps_grow plan width [] batch fin.empty (All-nil (IsAccepted plan width)) h (omega (arith, fits)) (no_groups plan) in
      let s = shared plan (fin.entries m) (kept batch) (true_of (fin.is_sorted key_cmp (fin.entries m)) (fin.entries_sorted m)) (filter_passes (is_kept plan) batch)
      (λ q. kept_group batch q ∙ sym (are.each q) ∙ fin.get-entries m q) in
      record { lists = s.lists; each = s.each; same = s.same }

  all_batches : (batches : List Table) → Accepted (flat_map (λ b. b) batches) → length (flat_map (λ b. b) batches) < 2 ^ 64
      → Stand (flat_map (groups_of plan) batches) (kept (flat_map (λ b. b) batches))
  all_batches [] h fits = record { lists = []; each = tt; same = IsPermutation-refl [] }
  all_batches (batch ∷ batches) h fits =
      let rest = flat_map (λ b. b) batches in
      let both_are = All-apart (IsAccepted plan width) batch rest h in
      let long = length-append batch rest in
      subst (Stand (groups_of plan batch ++ flat_map (groups_of plan) batches)) (sym (filter-append (is_kept plan) batch rest))
      (join_stands (groups_of plan batch) (flat_map (groups_of plan) batches) (kept batch) (kept rest)
      (one_batch batch both_are.0 (omega (arith, long, fits))) (all_batches batches both_are.1 (omega (arith, long, fits))))

  one_worker : (draws : List ℕ) (groups : List Group) → AreSent plan width records draws groups → length (rows_of_blocks records draws) < 2 ^ 64
      → Stand groups (kept (rows_of_blocks records draws))
  one_worker draws groups a fits =
      goes_along (StandsFor plan) (flat_map (groups_of plan) a.batches) groups (kept (rows_of_blocks records draws)) a.sent
      (subst (λ rows. Stand (flat_map (groups_of plan) a.batches) (kept rows)) a.cut
      (all_batches a.batches (subst Accepted (sym a.cut) a.accepted) (subst (λ rows. length rows < 2 ^ 64) (sym a.cut) fits)))

  all_workers : (draws : List (List ℕ)) (sent : List (List Group)) → AllZip (AreSent plan width records) draws sent → length (rows_of_blocks records (flat draws)) < 2 ^ 64
      → Stand (flat_map (λ g. g) sent) (kept (rows_of_blocks records (flat draws))) × Accepted (rows_of_blocks records (flat draws))
  all_workers [] [] z fits = (record { lists = []; each = tt; same = IsPermutation-refl [] }, All-nil (IsAccepted plan width))
  all_workers [] (g ∷ sent) z fits = absurd z
  all_workers (ds ∷ draws) [] z fits = absurd z
  all_workers (ds ∷ draws) (g ∷ sent) z fits =
      let cut = flat_map-append (block_rows records) ds (flat draws) in
      let mine = rows_of_blocks records ds in
      let rest = rows_of_blocks records (flat draws) in
      let long = ap (length {A = List (List ℕ)}) cut ∙ length-append mine rest in
      let more = all_workers draws sent z.1 (omega (arith, long, fits)) in
      let one = one_worker ds g z.0 (omega (arith, long, fits)) in (
        subst (Stand (g ++ flat_map (λ g. g) sent)) (sym (ap kept cut ∙ filter-append (is_kept plan) mine rest))
            (join_stands g (flat_map (λ g. g) sent) (kept mine) (kept rest) one more.0),
        subst Accepted (sym cut) (All-append (IsAccepted plan width) mine rest z.0.accepted more.1),
      )

  -- ---- all parts

  abbrev block_parts : List ℕ → List Part
  block_parts bs = map Block bs

  abbrev group_parts : List Group → List Part
  group_parts gs = map Received gs

  sorted_out : (parts : List Part) → IsPermutation (block_parts (blocks_in parts) ++ group_parts (received_in parts)) parts
  sorted_out [] = IsPermutation-refl []
  sorted_out (Block b ∷ parts) = IsPermutation-cons (Block b) (block_parts (blocks_in parts) ++ group_parts (received_in parts)) parts (sorted_out parts)
  sorted_out (Received g ∷ parts) =
      let bs = block_parts (blocks_in parts) in
      let gs = group_parts (received_in parts) in
      IsPermutation-trans (bs ++ Received g ∷ gs) (Received g ∷ (bs ++ gs)) (Received g ∷ parts)
      (IsPermutation-middle bs (Received g) gs) (IsPermutation-cons (Received g) (bs ++ gs) parts (sorted_out parts))

  covered_blocks : (bs : List ℕ) → AllZip Covers (block_parts bs) (map (λ b. kept (block_rows records b)) bs)
  covered_blocks [] = tt
  covered_blocks (b ∷ bs) = (refl, covered_blocks bs)

  covered_groups : (gs : List Group) (lists : List Table) → AllZip (StandsFor plan) gs lists → AllZip Covers (group_parts gs) lists
  covered_groups [] [] z = tt
  covered_groups [] (l ∷ lists) z = absurd z
  covered_groups (g ∷ gs) [] z = absurd z
  covered_groups (g ∷ gs) (l ∷ lists) z = (z.0, covered_groups gs lists z.1)

  kept_blocks : (bs : List ℕ) → flat_map (λ l. l) (map (λ b. kept (block_rows records b)) bs) ≡ kept (rows_of_blocks records bs)
  kept_blocks [] = refl
  kept_blocks (b ∷ bs) = ap (λ l. kept (block_rows records b) ++ l) (kept_blocks bs) ∙ sym (filter-append (is_kept plan) (block_rows records b) (rows_of_blocks records bs))

  kept_apart : (bs : List ℕ) → flat_map (λ b. kept (block_rows records b)) bs ≡ kept (rows_of_blocks records bs)
  kept_apart [] = refl
  kept_apart (b ∷ bs) = ap (λ l. kept (block_rows records b) ++ l) (kept_apart bs) ∙ sym (filter-append (is_kept plan) (block_rows records b) (rows_of_blocks records bs))

  all_parts : (parts : List Part) (sent : List (List Group)) (rows : Table) → IsPermutation (received_in parts) (flat_map (λ g. g) sent) → Stand (flat_map (λ g. g) sent) (kept rows)
      → Paired Covers parts (kept (rows_of_blocks records (blocks_in parts)) ++ kept rows)
  all_parts parts sent rows same stand =
      let bs = blocks_in parts in
      let blocks = map (λ b. kept (block_rows records b)) bs in
      let whole = kept (rows_of_blocks records bs) ++ kept rows in
      let first : IsPermutation whole (flat_map (λ l. l) (blocks ++ stand.lists)) =
      same-permutation whole (flat_map (λ l. l) blocks ++ flat_map (λ l. l) stand.lists) (flat_map (λ l. l) (blocks ++ stand.lists)) (sym (flat_map-append (λ l. l) blocks stand.lists))
      (subst (λ l. IsPermutation whole (l ++ flat_map (λ l. l) stand.lists)) (sym (kept_blocks bs))
      (IsPermutation-append_right (kept (rows_of_blocks records bs)) (kept rows) (flat_map (λ l. l) stand.lists) stand.same)) in
      let start = along Covers (block_parts bs ++ group_parts (flat_map (λ g. g) sent)) (blocks ++ stand.lists)
      (AllZip-join Covers (block_parts bs) (group_parts (flat_map (λ g. g) sent)) blocks stand.lists (covered_blocks bs) (covered_groups (flat_map (λ g. g) sent) stand.lists stand.each))
      whole first in
      let moved : IsPermutation (block_parts bs ++ group_parts (flat_map (λ g. g) sent)) parts =
      IsPermutation-trans (block_parts bs ++ group_parts (flat_map (λ g. g) sent)) (block_parts bs ++ group_parts (received_in parts)) parts
      (IsPermutation-append_right (block_parts bs) (group_parts (flat_map (λ g. g) sent)) (group_parts (received_in parts))
      (IsPermutation-map Received (flat_map (λ g. g) sent) (received_in parts) (IsPermutation-sym (received_in parts) (flat_map (λ g. g) sent) same)))
      (sorted_out parts) in
      goes_along Covers (block_parts bs ++ group_parts (flat_map (λ g. g) sent)) parts whole moved start

  pub gathered : (own : List ℕ) (draws : List (List ℕ)) (sent : List (List Group)) (parts : List Part) (n : ℕ)
      → IsGathered plan width records own draws sent parts
      → ((x : ℕ) → times x (flat (own ∷ draws)) ≡ once_below x n) → length records ≤ 256 * n + 1 → length records < 2 ^ 63
      → All (IsAccepted plan width) (drop 1 records) × AreGroups plan (drop 1 records) (after plan records parts)
  gathered own draws sent parts n is once all few =
      let drawn = own ++ flat draws in
      let everything = drop 1 records in
      let sorted : IsPermutation drawn (below n) = drawn_are_below n drawn once in
      let rows : IsPermutation (rows_of_blocks records drawn) everything =
      same-permutation (rows_of_blocks records drawn) (rows_of_blocks records (below n)) everything (rows_all records n all) (flat_map-permutation (block_rows records) drawn (below n) sorted) in
      let cut = flat_map-append (block_rows records) own (flat draws) in
      let long = ap (length {A = List (List ℕ)}) cut ∙ length-append (rows_of_blocks records own) (rows_of_blocks records (flat draws)) in
      let size : length everything ≡ length (rows_of_blocks records drawn) = length_permutation (rows_of_blocks records drawn) everything rows in
      let short : length everything ≤ length records = grind (arith, Rattle.std.proofs.Common.length-drop) in
      let workers = all_workers draws sent is.all_sent (omega (arith, long, size, short, few)) in
      let accepted : Accepted everything =
      All-permutation (IsAccepted plan width) (rows_of_blocks records drawn) everything rows
      (subst Accepted (sym cut) (All-append (IsAccepted plan width) (rows_of_blocks records own) (rows_of_blocks records (flat draws)) is.own_accepted workers.1)) in
      let paired = all_parts parts sent (rows_of_blocks records (flat draws)) is.all_received workers.0 in
      let whole : kept (rows_of_blocks records (blocks_in parts)) ++ kept (rows_of_blocks records (flat draws)) ≡ flat_map (λ b. kept (block_rows records b)) drawn =
      ap (λ l. kept l ++ kept (rows_of_blocks records (flat draws))) is.own_blocks
      ∙ sym (filter-append (is_kept plan) (rows_of_blocks records own) (rows_of_blocks records (flat draws))) ∙ ap kept (sym cut) ∙ sym (kept_apart drawn) in
      let last : flat_map (λ b. kept (block_rows records b)) (below n) ≡ kept everything = kept_apart (below n) ∙ ap kept (rows_all records n all) in
      let moved : IsPermutation (kept everything) (flat_map (λ l. l) paired.lists) =
      IsPermutation-trans (kept everything) (flat_map (λ b. kept (block_rows records b)) drawn) (flat_map (λ l. l) paired.lists)
      (subst (λ l. IsPermutation l (flat_map (λ b. kept (block_rows records b)) drawn)) last
      (IsPermutation-sym (flat_map (λ b. kept (block_rows records b)) drawn) (flat_map (λ b. kept (block_rows records b)) (below n))
      (flat_map-permutation (λ b. kept (block_rows records b)) drawn (below n) sorted)))
      (subst (λ l. IsPermutation l (flat_map (λ l. l) paired.lists)) whole paired.same) in
      let fine : Accepted (kept everything) = All-filter (is_kept plan) (IsAccepted plan width) everything accepted in
      let lists_fine : Accepted (flat_map (λ l. l) paired.lists) = All-permutation (IsAccepted plan width) (kept everything) (flat_map (λ l. l) paired.lists) moved fine in
      let fewer : length (kept everything) ≤ length everything = (let both = length-filter_both (is_kept plan) (λ row. not (is_kept plan row)) (λ row. refl) everything in omega (arith, both)) in
      let lengths = length_permutation (kept everything) (flat_map (λ l. l) paired.lists) moved in
      let are = grows parts paired.lists [] fin.empty paired.each (All-nil (IsAccepted plan width)) lists_fine (omega (arith, lengths, fewer, short, few)) (no_groups plan) in (
        accepted,
        record {
          each = λ q. are.each q ∙ in_any_order plan width (kept everything) (flat_map (λ l. l) paired.lists) q fine moved ∙ kept_group everything q;
        },
      )

  -- ---- the tuples of some rows

  pub all_added : (m : GroupsByKey) (gs : List Group) → fold (with_part plan records) m (group_parts gs) ≡ with_all m gs
  all_added m [] = refl
  all_added m (g ∷ gs) = all_added (added m g.0 g.1) gs

  combined : (rows : Table) (messages : List (List ℕ)) → Accepted rows → length rows < 2 ^ 63 → AreTuples plan rows messages → CombineTo plan rows messages
  combined rows messages h few t =
      let gs = t.groups in
      let stand : Stand gs (kept rows) =
      goes_along (StandsFor plan) (flat_map (groups_of plan) t.batches) gs (kept rows) t.all
      (subst (λ rs. Stand (flat_map (groups_of plan) t.batches) (kept rs)) t.cut
      (all_batches t.batches (subst Accepted (sym t.cut) h) (subst (λ rs. length rs < 2 ^ 64) (sym t.cut) (omega (arith, few))))) in
      let lists = flat_map (λ l. l) stand.lists in
      let fine : Accepted (kept rows) = All-filter (is_kept plan) (IsAccepted plan width) rows h in
      let lists_fine : Accepted lists = All-permutation (IsAccepted plan width) (kept rows) lists stand.same fine in
      let fewer : length (kept rows) ≤ length rows = (let both = length-filter_both (is_kept plan) (λ row. not (is_kept plan row)) (λ row. refl) rows in omega (arith, both)) in
      let lengths = length_permutation (kept rows) lists stand.same in
      let are = grows (group_parts gs) stand.lists [] fin.empty (covered_groups gs stand.lists stand.each) (All-nil (IsAccepted plan width)) lists_fine (omega (arith, lengths, fewer, few)) (no_groups plan) in
      record {
        groups = gs;
        has = t.written;
        are = t.sent;
        whole = record {
          each = λ q. ap (λ (m : GroupsByKey). fin.get m q) (sym (all_added fin.empty gs)) ∙ are.each q ∙ in_any_order plan width (kept rows) lists q fine stand.same ∙ kept_group rows q;
        };
      }

pub combines : TuplesCombine
combines plan width rows messages h few t = combined plan width [] rows messages h few t

pub gathers : GathersAll
gathers plan width records own draws sent parts n is once all few = gathered plan width records own draws sent parts n is once all few
