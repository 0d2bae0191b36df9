-- The numbers of the rows of blocks: in a block one after the other, and in all blocks each once.
use Rattle.std.proofs.Common.{◌≡◌, ◌<◌, ◌≤◌, ◌+◌, ◌*◌, ◌-◌, ◌++◌, ◌⊎◌, inl, inr, ℕ, zero, suc, List, [], ◌∷◌, length, take, drop, get_or, min, refl, ap, sym, subst, ◌∙◌, arith, append-nil, length-append, length-drop, length-take}
use Rattle.std.specs.List.{flat_map}
use Rattle.std.specs.List.Sorted.{IsPermutation}
use Rattle.std.proofs.lemmas.Bool.{cases_lt}
use Rattle.std.proofs.lemmas.List.{drop_all, get_or-drop, get_or-take, get_or_append_left, get_or_push, take_all, take_more}
use Rattle.std.proofs.lemmas.List.Concat.{flat_map-append}
use Rattle.scan_claim.specs.Drawing.{below, flat, once_below, times}
use Rattle.row_blocks.specs.Blocks.{AreBlocks, Table, block_numbers, numbers_of, numbers_of_blocks}
use Rattle.row_blocks.proofs.BlockRows.{cut_below}
use Rattle.row_blocks.proofs.Draws.{drawn_are_below}
use Rattle.row_blocks.proofs.Permute.{flat_map-permutation}

pub length-below : (n : ℕ) → length (below n) ≡ n
length-below zero = refl
length-below (suc n) = length-append (below n) (n ∷ []) ∙ omega (arith, length-below n)

pub at_below : (n k : ℕ) → k < n → get_or (below n) k 0 ≡ k
at_below zero k h = absurd (omega (arith, h))
at_below (suc n) k h = by (at_below n k) (cases_lt k n)
  where
    by : (k < n → get_or (below n) k 0 ≡ k) → (k < n) ⊎ (n ≤ k) → get_or (below n ++ n ∷ []) k 0 ≡ k
    by before (inl l) = get_or_append_left (below n) (n ∷ []) 0 k (omega (arith, l, length-below n)) ∙ before l
    by before (inr l) =
        let e : n ≡ k = omega (arith, h, l) in
        get_or_push (below n) n 0 k (length-below n ∙ e) ∙ e

-- ---- one block

module _ (records : Table) (block : ℕ) where
  pub length-numbers : length (block_numbers records block) ≡ min 256 (length records - (256 * block + 1))
  length-numbers =
      length-take 256 (drop (256 * block + 1) (below (length records)))
      ∙ ap (min 256) (length-drop (256 * block + 1) (below (length records)) ∙ ap (λ (n : ℕ). n - (256 * block + 1)) (length-below (length records)))

  pub number_at : (at : ℕ) → at < 256 → 256 * block + 1 + at < length records → get_or (block_numbers records block) at 0 ≡ 256 * block + 1 + at
  number_at at small there =
      get_or-take 256 (drop (256 * block + 1) (below (length records))) at 0 small ∙ get_or-drop (256 * block + 1) (below (length records)) at 0
      ∙ at_below (length records) (256 * block + 1 + at) there

  -- one more of its numbers
  pub numbers_next : (at row : ℕ) → at < 256 → row ≡ 256 * block + 1 + at → row < length records → take (at + 1) (block_numbers records block) ≡ take at (block_numbers records block) ++ row ∷ []
  numbers_next at row small is there =
      let here : 256 * block + 1 + at < length records = omega (arith, is, there) in
      let within : at < length (block_numbers records block) = omega (arith, length-numbers, small, here) in
      take_more (block_numbers records block) at 0 within ∙ ap (λ (n : ℕ). take at (block_numbers records block) ++ n ∷ []) (number_at at small here ∙ sym is)

  pub numbers_end : (at : ℕ) → min 256 (length records - (256 * block + 1)) ≤ at → take at (block_numbers records block) ≡ block_numbers records block
  numbers_end at h = take_all at (block_numbers records block) (omega (arith, h, length-numbers))

-- ---- some blocks

module _ (records : Table) where
  pub more_numbers : (draws : List ℕ) (b : ℕ) → numbers_of_blocks records (draws ++ b ∷ []) ≡ numbers_of_blocks records draws ++ block_numbers records b
  more_numbers draws b = flat_map-append (block_numbers records) draws (b ∷ []) ∙ ap (λ (l : List ℕ). numbers_of_blocks records draws ++ l) (append-nil (block_numbers records b))

  no_numbers : (blocks n : ℕ) → AreBlocks records blocks → blocks ≤ n → block_numbers records n ≡ []
  no_numbers blocks n a h = ap (take 256) (drop_all (256 * n + 1) (below (length records)) (omega (arith, a.all, h, length-below (length records))))

  -- a number that is no block has no rows
  pub late_numbers : (blocks : ℕ) (draws draws' : List ℕ) → AreBlocks records blocks → (draws' ≡ draws) ⊎ ((n : ℕ) × (blocks ≤ n) × (draws' ≡ draws ++ n ∷ [])) → numbers_of_blocks records draws' ≡ numbers_of_blocks records draws
  late_numbers blocks draws draws' a (inl e) = ap (numbers_of_blocks records) e
  late_numbers blocks draws draws' a (inr p) =
      ap (numbers_of_blocks records) p.2 ∙ more_numbers draws p.0 ∙ ap (λ (l : List ℕ). numbers_of_blocks records draws ++ l) (no_numbers blocks p.0 a p.1) ∙ append-nil (numbers_of_blocks records draws)

-- so many blocks that they cover the rows have all numbers
pub numbers_all : (records : Table) (n : ℕ) → length records ≤ 256 * n + 1 → numbers_of_blocks records (below n) ≡ numbers_of records
numbers_all records n h =
    let all = below (length records) in
    cut_below all n ∙ take_all (256 * n) (drop 1 all) (omega (arith, length-drop 1 all, length-below (length records), h))

-- blocks that were drawn, each once, have the numbers of all rows
pub drawn_numbers : (records : Table) (draws : List ℕ) (n : ℕ) → ((x : ℕ) → times x draws ≡ once_below x n) → length records ≤ 256 * n + 1 → IsPermutation (numbers_of_blocks records draws) (numbers_of records)
drawn_numbers records draws n once cover =
    subst (IsPermutation (numbers_of_blocks records draws)) (numbers_all records n cover) (flat_map-permutation (block_numbers records) draws (below n) (drawn_are_below n draws once))

-- the blocks of several participants, one after the other
pub flat_numbers : (records : Table) (lists : List (List ℕ)) → numbers_of_blocks records (flat lists) ≡ flat_map (numbers_of_blocks records) lists
flat_numbers records [] = refl
flat_numbers records (l ∷ ls) = flat_map-append (block_numbers records) l (flat ls) ∙ ap (λ (m : List ℕ). numbers_of_blocks records l ++ m) (flat_numbers records ls)
