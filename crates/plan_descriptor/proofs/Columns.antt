-- The word of a column and of the places of its numbers.
use Rattle.std.proofs.Common.{◌≡◌, ◌==◌, ◌<◌, ◌≤◌, ◌+◌, ◌*◌, ◌^◌, ℕ, Bool, true, false, if◌then◌else◌, List, nat_lt, arith, inl, inr, refl}
use Rattle.std.proofs.lemmas.Bool.{cases_Bool}
use Rattle.std.proofs.lemmas.Bool.Decides.{nat_tests}
use Rattle.std.specs.Prelude.{slice_index}
use Rattle.par_model.specs.declared.plan.TheConstants.{MOST_PLACES}
use Rattle.plan_descriptor.specs.Descriptor.{column_word, is_column, is_placed}

-- ---- its parts

pub same_parts : (a b p q : ℕ) → a < 2 ^ 32 → b < 2 ^ 32 → column_word a p ≡ column_word b q → (a ≡ b) × (p ≡ q)
same_parts a b p q fits fits' same = (omega arith, omega arith)

pub zero_parts : (a p : ℕ) → column_word a p ≡ 0 → (a ≡ 0) × (p ≡ 0)
zero_parts a p none = (omega arith, omega arith)

pub no_places : (a p word : ℕ) → column_word a p ≡ word → word < 2 ^ 32 → p ≡ 0
no_places a p word is narrow = omega arith

-- ---- a word that is allowed

pub column_fits : (b : Bool) (word : ℕ) → is_column b word ≡ true → word < 2 ^ 32
column_fits true word e = grind (arith, nat_tests)
column_fits false word e = grind (arith, nat_tests)

pub column_none : (b : Bool) (word : ℕ) → b ≡ false → is_column b word ≡ true → word ≡ 0
column_none true word b e = cc
column_none false word b e = grind (arith, nat_tests)

fits_in : (old b : Bool) (word : ℕ) → (if old then is_column b word else (if b then nat_lt word (2 ^ 32 * (MOST_PLACES + 1)) else word == 0)) ≡ true → word < 2 ^ 32 * (MOST_PLACES + 1)
fits_in true true word e = grind (arith, nat_tests)
fits_in true false word e = grind (arith, nat_tests)
fits_in false true word e = grind (arith, nat_tests)
fits_in false false word e = grind (arith, nat_tests)

pub placed_fits : (words : List ℕ) (b : Bool) (word : ℕ) → is_placed words b word ≡ true → word < 2 ^ 32 * (MOST_PLACES + 1)
placed_fits words b word e = fits_in (slice_index words 0 == 1) b word e

none_in : (old b : Bool) (word : ℕ) → b ≡ false → (if old then is_column b word else (if b then nat_lt word (2 ^ 32 * (MOST_PLACES + 1)) else word == 0)) ≡ true → word ≡ 0
none_in old true word b e = cc
none_in true false word b e = grind (arith, nat_tests)
none_in false false word b e = grind (arith, nat_tests)

pub placed_none : (words : List ℕ) (b : Bool) (word : ℕ) → b ≡ false → is_placed words b word ≡ true → word ≡ 0
placed_none words b word lacks e = none_in (slice_index words 0 == 1) b word lacks e

-- version 1 has no places
pub placed_old : (words : List ℕ) (b : Bool) (word : ℕ) → slice_index words 0 ≡ 1 → is_placed words b word ≡ true → word < 2 ^ 32
placed_old words b word one e = column_fits b word (rw one at e)

-- ---- a word that is to be allowed

nothing : (old : Bool) → (if old then is_column false 0 else (0 == 0)) ≡ true
nothing true = refl
nothing false = refl

pub placed_nothing : (words : List ℕ) → is_placed words false 0 ≡ true
placed_nothing words = nothing (slice_index words 0 == 1)

below : (a b : ℕ) → a < b → nat_lt a b ≡ true
below a b h = grind (arith, nat_tests)

is_one : (n : ℕ) → (n == 1) ≡ true → n ≡ 1
is_one n e = grind (arith, nat_tests)

pub placed_column : (words : List ℕ) (column places : ℕ) → column < 2 ^ 32 → places ≤ MOST_PLACES → (slice_index words 0 ≡ 1 → places ≡ 0) → is_placed words true (column_word column places) ≡ true
placed_column words column places fits few old = elim (cases_Bool (slice_index words 0 == 1)) [
  | inl e ↦
      let none : places ≡ 0 = old (is_one (slice_index words 0) e) in
      rw e (below (column_word column places) (2 ^ 32) (omega arith))
  | inr e ↦ rw e (below (column_word column places) (2 ^ 32 * (MOST_PLACES + 1)) (omega arith))
]
