-- The law: the leader's map is that of one pass over all rows.
use Rattle.std.proofs.Common.{◌≡◌, ◌≢◌, ◌<◌, ◌≤◌, ◌+◌, ◌*◌, ◌^◌, ◌++◌, ◌&&◌, ◌⊎◌, inl, inr, ℕ, suc, false, List, [], ◌∷◌, All, None, Some, drop, filter, length, map as map_list, not, slice_get, bytes_eq, refl, ap, sym, subst, ◌∙◌, arith, length-append, length-drop}
use Rattle.std.specs.FinMap as fin
use Rattle.std.specs.List.{AllByRecursion, AllZip, flat_map}
use Rattle.std.specs.List.Sorted.{IsPermutation}
use Rattle.std.proofs.lemmas.List.Concat.{flat_map-append}
use Rattle.std.proofs.lemmas.List.Elements.{All-filter, recursion_from_All}
use Rattle.std.proofs.lemmas.List.Filters.{length-filter_both}
use Rattle.std.proofs.lemmas.List.Sorted.{All-permutation, IsPermutation-refl, length_permutation}
use Rattle.agg_cell.specs.Called.{Seen, all_combined, called as called_states, stands}
use Rattle.agg_cell.proofs.Rows.{groups}
use Rattle.agg_table.specs.Calls.{IsKeyed}
use Rattle.agg_table.specs.Drained.{AddsTable, HoldsAll}
use Rattle.agg_table.proofs.Standing.{states_of}
use Rattle.dshash_core.specs.Cells.{partition_of}
use Rattle.dshash_core.specs.Key.{hash_of, packed_key}
use Rattle.dshash_core.proofs.Maps.{keys_same_or_not}
use Rattle.gather_law.specs.Parts.{with_all}
use Rattle.gather_law.specs.Tuples.{Group}
use Rattle.row_blocks.specs.Blocks.{Table, block_rows, rows_of_blocks}
use Rattle.row_blocks.proofs.Draws.{drawn_are_below}
use Rattle.row_blocks.proofs.BlockRows.{rows_all}
use Rattle.row_blocks.proofs.Elements.{All-apart}
use Rattle.gather_law.proofs.Keys.{StandsFor, filter_through}
use Rattle.row_blocks.proofs.Permute.{flat_map-permutation, goes_along, same-permutation}
use Rattle.par_model.specs.Keep.{is_kept}
use Rattle.par_model.specs.Key.{key_of}
use Rattle.par_model.specs.Plan.{Plan}
use Rattle.par_model.specs.declared.state.AggState.{AggState}
use Rattle.partial_agg.specs.Groups.{AreGroups, GroupsByKey, group_of}
use Rattle.partial_agg.specs.Laws.{both}
use Rattle.partial_agg.specs.Rows.{IsAccepted}
use Rattle.partial_agg.proofs.Adding.{both-none, grouped, groups_add}
use Rattle.partial_agg.proofs.AnyOrder.{in_any_order}
use Rattle.rel_pointer.specs.Bytes.{AllBytes}
use Rattle.scan_claim.specs.Drawing.{below, flat, once_below, times}
use Rattle.agg_law.specs.Law.{IsTabled, Share, TableGathers}
use Rattle.agg_law.proofs.Calls.{called_are, stands_combined}
use Rattle.agg_law.proofs.PutAndLeft.{all_accepted, all_groups, apart, left_and_put, shares_stand}
use Rattle.agg_law.proofs.States.{gathered_states, groups_in-states, states-other}

-- ---- lists

all_keyed : (puts : List (List Group)) → ((k : ℕ) (put : List Group) → slice_get puts k ≡ Some put → All IsKeyed put) → AllByRecursion IsKeyed (flat_map (λ (put : List Group). put) puts)
all_keyed [] h = tt
all_keyed (put ∷ puts) h = both_parts put (flat_map (λ (p : List Group). p) puts) (recursion_from_All IsKeyed put (h 0 put refl)) (all_keyed puts (λ k p e. h (suc k) p e))
  where
    both_parts : (xs ys : List Group) → AllByRecursion IsKeyed xs → AllByRecursion IsKeyed ys → AllByRecursion IsKeyed (xs ++ ys)
    both_parts [] ys a b = b
    both_parts (x ∷ xs) ys a b = (a.0, both_parts xs ys a.1 b)

-- a key that some group has is a key of such groups
key_keyed : (gs : List Group) → AllByRecursion IsKeyed gs → (key : List ℕ) (s : AggState) (ss : List AggState) → states_of key gs ≡ s ∷ ss → IsKeyed (key, s)
key_keyed [] keyed key s ss e = absurd (cc)
key_keyed (g ∷ gs) keyed key s ss e = by (key_keyed gs keyed.1 key s ss) (keys_same_or_not key g.0)
  where
    by : (states_of key gs ≡ s ∷ ss → IsKeyed (key, s)) → (key ≡ g.0) ⊎ (key ≢ g.0) → IsKeyed (key, s)
    by rest (inl same) = record { bytes = subst AllBytes (sym same) keyed.0.bytes; short = subst (λ (k : List ℕ). length k ≤ 248) (sym same) keyed.0.short }
    by rest (inr differ) = rest (sym (states-other key g gs differ) ∙ e)

none_combined : (states : List AggState) → IsPermutation [] states → all_combined states ≡ None
none_combined [] same = refl
none_combined (s ∷ ss) same = let long = length_permutation [] (s ∷ ss) same in absurd (omega (arith, long))

puts_flat : (shares : List Share) → flat_map (λ (put : List Group). put) (map_list (λ (s : Share). s.put) shares) ≡ flat_map (λ (s : Share). s.put) shares
puts_flat [] = refl
puts_flat (s ∷ shares) = ap (λ (l : List Group). s.put ++ l) (puts_flat shares)

module _ (plan : Plan) (width : ℕ) (items_few : length plan.items ≤ 8) where
  abbrev Accepted : Table → Type 0
  Accepted rows = All (IsAccepted plan width) rows

  abbrev flat_rows : List Table → Table
  flat_rows lists = flat_map (λ (rows : Table). rows) lists

  -- ---- one key

  module _ (history : Seen) (puts : List (List Group)) (held : HoldsAll history puts) (left : List Group) (last : GroupsByKey) (adds : AddsTable history (with_all fin.empty left) last)
      (ls ps : List Table) (of_left : AllZip (StandsFor plan) left ls) (of_put : AllZip (StandsFor plan) (flat_map (λ (put : List Group). put) puts) ps)
      (fine_left : Accepted (flat_rows ls)) (fine_put : Accepted (flat_rows ps)) (few_left : length (flat_rows ls) < 2 ^ 64) (few_put : length (flat_rows ps) < 2 ^ 64) where
    abbrev put : List Group
    put = flat_map (λ (p : List Group). p) puts

    left_group : (key : List ℕ) → fin.get (with_all fin.empty left) key ≡ group_of plan (flat_rows ls) key
    left_group key =
        gathered_states left key
        ∙ groups plan width ls key (states_of key left) items_few fine_left few_left
        (subst (λ ss. IsPermutation ss (states_of key left)) (sym (groups_in-states plan key left ls of_left)) (IsPermutation-refl (states_of key left)))

    put_group : (key : List ℕ) (states : List AggState) → IsPermutation (states_of key put) states → all_combined states ≡ group_of plan (flat_rows ps) key
    put_group key states order =
        groups plan width ps key states items_few fine_put few_put (subst (λ ss. IsPermutation ss states) (sym (groups_in-states plan key put ps of_put)) order)

    each_key : (key : List ℕ) → fin.get last key ≡ both (group_of plan (flat_rows ls) key) (group_of plan (flat_rows ps) key)
    each_key key = by (states_of key put) refl
      where
        by : (states : List AggState) → states_of key put ≡ states → fin.get last key ≡ both (group_of plan (flat_rows ls) key) (group_of plan (flat_rows ps) key)
        by [] none =
            adds.rest key (λ bytes short.
            stands_combined key bytes short history puts held
            ∙ none_combined (called_states (packed_key key) (history (partition_of (hash_of (packed_key key)))))
            (subst (λ ss. IsPermutation ss (called_states (packed_key key) (history (partition_of (hash_of (packed_key key)))))) none (called_are key bytes short history puts held)))
            ∙ left_group key
            ∙ sym (both-none (group_of plan (flat_rows ls) key))
            ∙ ap (both (group_of plan (flat_rows ls) key)) (put_group key [] (subst (λ ss. IsPermutation ss []) (sym none) (IsPermutation-refl [])))
        by (s ∷ ss) some =
            let keyed = key_keyed put (all_keyed puts held.keyed) key s ss some in
            adds.each key keyed.bytes keyed.short
            ∙ ap (λ o. both o (stands history (packed_key key))) (left_group key)
            ∙ ap (both (group_of plan (flat_rows ls) key))
            (stands_combined key keyed.bytes keyed.short history puts held
            ∙ put_group key (called_states (packed_key key) (history (partition_of (hash_of (packed_key key))))) (called_are key keyed.bytes keyed.short history puts held))

  -- ---- all rows

  abbrev kept : Table → Table
  kept rows = filter (is_kept plan) rows

  not_kept : (q : List ℕ) (row : List (List ℕ)) → is_kept plan row ≡ false → (is_kept plan row && bytes_eq (key_of plan row) q) ≡ false
  not_kept q row e = rw e refl

  kept_group : (rows : Table) (q : List ℕ) → group_of plan (kept rows) q ≡ group_of plan rows q
  kept_group rows q = ap (grouped plan) (filter_through (is_kept plan) (λ row. is_kept plan row && bytes_eq (key_of plan row) q) (not_kept q) rows)

  flat_parts : (xs ys zs : List Table) → zs ≡ xs ++ ys → flat_rows zs ≡ flat_rows xs ++ flat_rows ys
  flat_parts xs ys zs is = ap flat_rows is ∙ flat_map-append (λ (rows : Table). rows) xs ys

  -- the groups of two lists of rows, which are together those of the drawn rows that are kept, are those of all rows
  two_parts : (xs ys drawn everything : Table) → Accepted xs → Accepted ys → length xs + length ys < 2 ^ 64 → Accepted drawn → IsPermutation (kept drawn) (xs ++ ys) → IsPermutation drawn everything
      → (key : List ℕ) → both (group_of plan xs key) (group_of plan ys key) ≡ group_of plan everything key
  two_parts xs ys drawn everything of_xs of_ys few accepted moved order key =
      sym (groups_add plan width xs ys key of_xs of_ys few)
      ∙ in_any_order plan width (kept drawn) (xs ++ ys) key (All-filter (is_kept plan) (IsAccepted plan width) drawn accepted) moved
      ∙ kept_group drawn key
      ∙ sym (in_any_order plan width drawn everything key accepted order)

  of_parts : (last : GroupsByKey) (xs ys everything : Table) → ((key : List ℕ) → fin.get last key ≡ both (group_of plan xs key) (group_of plan ys key))
      → ((key : List ℕ) → both (group_of plan xs key) (group_of plan ys key) ≡ group_of plan everything key) → AreGroups plan everything last
  of_parts last xs ys everything one two = record { each = λ key. one key ∙ two key }

  gathered : (records : Table) (draws : List (List ℕ)) (shares : List Share) (history : Seen) (left : List Group) (last : GroupsByKey) (n : ℕ)
      → IsTabled plan width records draws shares history left last
      → ((x : ℕ) → times x (flat draws) ≡ once_below x n) → length records ≤ 256 * n + 1 → length records < 2 ^ 63
      → All (IsAccepted plan width) (drop 1 records) × AreGroups plan (drop 1 records) last
  gathered records draws shares history left last n is once all few =
      let drawn = flat draws in
      let everything = drop 1 records in
      let rows_drawn = rows_of_blocks records drawn in
      let puts = map_list (λ (s : Share). s.put) shares in
      let put = flat_map (λ (p : List Group). p) puts in
      let sorted : IsPermutation drawn (below n) = drawn_are_below n drawn once in
      let rows : IsPermutation rows_drawn everything =
      same-permutation rows_drawn (rows_of_blocks records (below n)) everything (rows_all records n all) (flat_map-permutation (block_rows records) drawn (below n) sorted) in
      let size : length everything ≡ length rows_drawn = length_permutation rows_drawn everything rows in
      let short : length everything ≤ length records = grind (arith, length-drop) in
      let accepted = all_accepted plan width records draws shares is.shared in
      let stand = shares_stand plan width records draws shares is.shared (omega (arith, size, short, few)) in
      let all_of = all_groups shares in
      let order : IsPermutation all_of (left ++ put) = subst (λ l. IsPermutation all_of (left ++ l)) (sym (puts_flat shares)) (left_and_put shares left is.all_left) in
      let paired = goes_along (StandsFor plan) all_of (left ++ put) (kept rows_drawn) order stand in
      let parts = apart (StandsFor plan) left put paired.lists paired.each in
      let rows_left = flat_rows parts.first in
      let rows_put = flat_rows parts.second in
      let whole : flat_rows paired.lists ≡ rows_left ++ rows_put = flat_parts parts.first parts.second paired.lists parts.is in
      let moved : IsPermutation (kept rows_drawn) (rows_left ++ rows_put) = subst (IsPermutation (kept rows_drawn)) whole paired.same in
      let fine : Accepted (kept rows_drawn) = All-filter (is_kept plan) (IsAccepted plan width) rows_drawn accepted in
      let fine_parts = All-apart (IsAccepted plan width) rows_left rows_put (All-permutation (IsAccepted plan width) (kept rows_drawn) (rows_left ++ rows_put) moved fine) in
      let fewer : length (kept rows_drawn) ≤ length rows_drawn = (let both = length-filter_both (is_kept plan) (λ row. not (is_kept plan row)) (λ row. refl) rows_drawn in omega (arith, both)) in
      let lengths : length (rows_left ++ rows_put) ≡ length (kept rows_drawn) = length_permutation (kept rows_drawn) (rows_left ++ rows_put) moved in
      let sum = length-append rows_left rows_put in
      let both_few : length rows_left + length rows_put < 2 ^ 64 = omega (arith, sum, lengths, fewer, size, short, few) in
      let one = each_key history puts is.table left last is.added parts.first parts.second parts.firsts parts.seconds fine_parts.0 fine_parts.1 (omega (arith, both_few)) (omega (arith, both_few)) in
      let two = two_parts rows_left rows_put rows_drawn everything fine_parts.0 fine_parts.1 both_few accepted moved rows in (
        All-permutation (IsAccepted plan width) rows_drawn everything rows accepted,
        of_parts last rows_left rows_put everything one two,
      )

pub gathers : TableGathers
gathers plan width records draws shares history left last n is once all few items_few = gathered plan width items_few records draws shares history left last n is once all few
