-- What the participants of the second round found, together.
use Rattle.std.proofs.Common.{◌≡◌, ◌<◌, ◌≤◌, ◌+◌, ◌*◌, ◌-◌, ◌++◌, ◌⊎◌, inl, inr, ℕ, IsTrue, List, [], ◌∷◌, Any, Option, Some, None, length, take, drop, map, ap, sym, subst, ◌∙◌, arith, length-append}
use Rattle.std.specs.List.{AllByRecursion, flat_map}
use Rattle.std.specs.List.Sorted.{IsPermutation, IsSorted}
use Rattle.std.proofs.lemmas.List.{take-append-drop}
use Rattle.std.proofs.lemmas.List.Concat.{flat_map-append}
use Rattle.std.proofs.lemmas.List.Sorted.{IsPermutation-append, IsPermutation-refl, IsPermutation-trans, length_permutation}
use Rattle.scan_claim.specs.Drawing.{IsDrawn, below, flat, is_spent, late, once_below, times}
use Rattle.scan_claim.specs.Shown.{blocks_of}
use Rattle.scan_claim.specs.declared.claims.Claims.{Claims}
use Rattle.scan_claim.proofs.Totals.{late-append}
use Rattle.row_blocks.proofs.Draws.{drawn_are_below}
use Rattle.row_blocks.proofs.Permute.{flat_map-permutation}
use Rattle.row_blocks.specs.Blocks.{AreBlocks, Table, block_numbers, numbers_of, numbers_of_blocks}
use Rattle.join_pairs.specs.Join.{most_pairs, pairs_of}
use Rattle.join_pairs.specs.Found.{Found, found_in, found_of}
use Rattle.join_pairs.specs.Law.{pair_cmp}
use Rattle.join_pairs.specs.declared.pairing.NoPairs.{NoPairs}
use Rattle.join_pairs.specs.declared.pairing.NoPairs.TheVariants.{TooMany}
use Rattle.join_pairs.specs.declared.pairs.Pair.{Pair}
use Rattle.row_blocks.proofs.Elements.{any_cases, any_none}
use Rattle.join_pairs.proofs.Joining.{joins, same_count}
use Rattle.row_blocks.proofs.BlockRows.{cut_below}
use Rattle.row_blocks.proofs.RowNumbers.{drawn_numbers}

-- ---- how many blocks were drawn

-- a seat that found the end shows that all blocks were drawn
pub drawn_enough : (records : Table) (blocks n : ℕ) (own : List ℕ) (lists : List (List ℕ)) → AreBlocks records blocks → IsDrawn blocks (own ∷ lists) n → IsTrue (is_spent blocks own) → length records ≤ 256 * n + 1
drawn_enough records blocks n own lists are d spent =
    let some : 0 < late blocks own = grind (arith, spent) in
    let lates = late-append blocks own (flat lists) in
    let past : late blocks (own ++ flat lists) ≡ n - blocks = d.past in
    omega (arith, some, lates, past, are.all)

module _ (left right : Table) (left_column right_column : ℕ) where
  abbrev found : List ℕ → List Pair
  found = found_in left right left_column right_column

  abbrev whole : List Pair
  whole = pairs_of left right left_column right_column

  found-append : (xs ys : List ℕ) → found (xs ++ ys) ≡ found xs ++ found ys
  found-append xs ys = flat_map-append (found_of left right left_column right_column) xs ys

  -- the rows of blocks that were drawn once have no more pairs than all rows
  pub at_most_all : (draws : List ℕ) (n : ℕ) → ((x : ℕ) → times x draws ≡ once_below x n) → length (found (numbers_of_blocks right draws)) ≤ length whole
  at_most_all draws n once =
      let all = numbers_of right in
      let first = take (256 * n) all in
      let drawn : IsPermutation (numbers_of_blocks right draws) first =
      subst (IsPermutation (numbers_of_blocks right draws)) (cut_below (below (length right)) n) (flat_map-permutation (block_numbers right) draws (below n) (drawn_are_below n draws once)) in
      let same : length (found first) ≡ length (found (numbers_of_blocks right draws)) =
      length_permutation (found (numbers_of_blocks right draws)) (found first) (flat_map-permutation (found_of left right left_column right_column) (numbers_of_blocks right draws) first drawn) in
      let apart : length (found all) ≡ length (found first) + length (found (drop (256 * n) all)) =
      ap (λ (l : List ℕ). length (found l)) (sym (take-append-drop (256 * n) all)) ∙ ap (λ (l : List Pair). length l) (found-append first (drop (256 * n) all)) ∙ length-append (found first) (found (drop (256 * n) all)) in
      let count : length (found all) ≡ length whole = same_count left right left_column right_column all (IsPermutation-refl all) in
      omega (arith, same, apart, count)

  module _ (c : Claims) {X : Type 0} (draws : X → List ℕ) (pairs : X → List Pair) (stopped : X → Option NoPairs) where
    -- a participant found what it had to
    abbrev pub DidFind : X → Type 0
    DidFind x = Found left right left_column right_column c (draws x) (pairs x) (stopped x)

    abbrev rows : List X → List ℕ
    rows xs = numbers_of_blocks right (flat (map draws xs))

    rows_front : (x : X) (xs : List X) → found (rows (x ∷ xs)) ≡ found (numbers_of_blocks right (draws x)) ++ found (rows xs)
    rows_front x xs = ap found (flat_map-append (block_numbers right) (draws x) (flat (map draws xs))) ∙ found-append (numbers_of_blocks right (draws x)) (rows xs)

    -- those of all who found the end
    pub pairs_together : (xs : List X) → AllByRecursion DidFind xs → AllByRecursion (λ x. stopped x ≡ None) xs → IsPermutation (found (rows xs)) (flat_map pairs xs)
    pairs_together [] f n = IsPermutation-refl []
    pairs_together (x ∷ xs) f n =
        let one = (subst (Found left right left_column right_column c (draws x) (pairs x)) n.0 f.0).same in
        subst (λ l. IsPermutation l (pairs x ++ flat_map pairs xs)) (sym (rows_front x xs))
        (IsPermutation-append (found (numbers_of_blocks right (draws x))) (pairs x) (found (rows xs)) (flat_map pairs xs) one (pairs_together xs f.1 n.1))

    -- one who has too many makes too many
    pub stopped_together : (xs : List X) → AllByRecursion DidFind xs → Any (λ x. stopped x ≡ Some TooMany) xs → most_pairs < length (found (rows xs))
    stopped_together [] f a = absurd (any_none (λ x. stopped x ≡ Some TooMany) a)
    stopped_together (x ∷ xs) f a = by (any_cases (λ x. stopped x ≡ Some TooMany) x xs a) (stopped_together xs f.1)
      where
        counts : length (found (rows (x ∷ xs))) ≡ length (found (numbers_of_blocks right (draws x))) + length (found (rows xs))
        counts = ap (λ (l : List Pair). length l) (rows_front x xs) ∙ length-append (found (numbers_of_blocks right (draws x))) (found (rows xs))

        by : (stopped x ≡ Some TooMany) ⊎ Any (λ x. stopped x ≡ Some TooMany) xs → (Any (λ x. stopped x ≡ Some TooMany) xs → most_pairs < length (found (rows xs))) → most_pairs < length (found (rows (x ∷ xs)))
        by (inl e) rest =
            let one : most_pairs < length (found (numbers_of_blocks right (draws x))) = subst (Found left right left_column right_column c (draws x) (pairs x)) e f.0 in
            omega (arith, one, counts)
        by (inr b) rest = let more = rest b in omega (arith, more, counts)

    -- ---- all together

    pub too_many : (xs : List X) (n : ℕ) → IsDrawn (blocks_of c) (map draws xs) n → AllByRecursion DidFind xs → Any (λ x. stopped x ≡ Some TooMany) xs → most_pairs < length whole
    too_many xs n d f a = let more = stopped_together xs f a in let most = at_most_all (flat (map draws xs)) n d.once in omega (arith, more, most)

    pub all_counted : (xs : List X) (n : ℕ) → IsDrawn (blocks_of c) (map draws xs) n → length right ≤ 256 * n + 1 → AllByRecursion DidFind xs → AllByRecursion (λ x. stopped x ≡ None) xs → length (flat_map pairs xs) ≡ length whole
    all_counted xs n d cover f none =
        length_permutation (found (rows xs)) (flat_map pairs xs) (pairs_together xs f none)
        ∙ same_count left right left_column right_column (rows xs) (drawn_numbers right (flat (map draws xs)) n d.once cover)

    pub all_paired : (xs : List X) (n : ℕ) (sorted : List Pair) → IsDrawn (blocks_of c) (map draws xs) n → length right ≤ 256 * n + 1 → AllByRecursion DidFind xs → AllByRecursion (λ x. stopped x ≡ None) xs
        → IsPermutation (flat_map pairs xs) sorted → IsSorted pair_cmp sorted → sorted ≡ whole
    all_paired xs n sorted d cover f none p s =
        joins left right left_column right_column (rows xs) sorted (drawn_numbers right (flat (map draws xs)) n d.once cover)
        (IsPermutation-trans (found (rows xs)) (flat_map pairs xs) sorted (pairs_together xs f none) p) s
