-- A byte order mark at the start of a table.
use Rattle.std.proofs.Common.{◌≡◌, ◌<◌, ◌+◌, ◌-◌, ℕ, zero, suc, true, false, List, [], ◌∷◌, length, take, drop, slice_index, refl, inl, inr, arith}
use Rattle.std.specs.Prelude.{◌==◌, ◌&&◌, nat_le, if◌then◌else◌}
use Rattle.std.proofs.lemmas.Bool.{cases_Bool}
use Rattle.std.proofs.lemmas.Bool.Decides.{nat_tests}
use Rattle.std.proofs.lemmas.List.{take_all}
use Rattle.csv.specs.Reading.{strip_bom}
use Rattle.csv_rows.specs.Places.{has_mark}

-- with a byte order mark and without
pub marked-strip : (xs : List ℕ) → strip_bom xs ≡ (if has_mark xs then drop 3 xs else xs)
unfolding strip_bom
marked-strip [] = refl
marked-strip (x ∷ []) = refl
marked-strip (x ∷ y ∷ []) = refl
marked-strip (x ∷ y ∷ z ∷ xs) =
    let long : nat_le 3 (length (x ∷ y ∷ z ∷ xs)) ≡ true = grind (arith, nat_tests) in
    rw long (elim (cases_Bool ((x == 239) && (y == 187) && (z == 191))) [ inl e ↦ rw e refl | inr e ↦ rw e refl ])

-- the place in a table of a place in its text after a byte order mark
pub record Marked (xs : List ℕ) (at : ℕ) : Type 0 where
  pub bound : length xs - length (strip_bom xs) + at < length xs
  pub byte : slice_index xs (length xs - length (strip_bom xs) + at) ≡ slice_index (strip_bom xs) at
  pub front : strip_bom (take (length xs - length (strip_bom xs) + at) xs) ≡ take at (strip_bom xs)

plain-front : (x y z : ℕ) (xs : List ℕ) (at : ℕ) → ((x == 239) && (y == 187) && (z == 191)) ≡ false → strip_bom (take at (x ∷ y ∷ z ∷ xs)) ≡ take at (x ∷ y ∷ z ∷ xs)
unfolding strip_bom
plain-front x y z xs zero h = refl
plain-front x y z xs (suc zero) h = refl
plain-front x y z xs (suc (suc zero)) h = refl
plain-front x y z xs (suc (suc (suc at))) h = rw h refl

plain-marked : (xs : List ℕ) (at : ℕ) → at < length xs → strip_bom xs ≡ xs → strip_bom (take at xs) ≡ take at xs → Marked xs at
plain-marked xs at lt same front =
    let place : length xs - length xs + at ≡ at = omega arith in
    record {
      bound = rw (same, place) lt;
      byte = rw (same, place) refl;
      front = rw (same, place) front;
    }

one-front : (x at : ℕ) → strip_bom (take at (x ∷ [])) ≡ take at (x ∷ [])
unfolding strip_bom
one-front x zero = refl
one-front x (suc at) =
    let none : take at [] ≡ [] = take_all {A = ℕ} at [] (omega arith) in
    rw none refl

two-front : (x y at : ℕ) → strip_bom (take at (x ∷ y ∷ [])) ≡ take at (x ∷ y ∷ [])
unfolding strip_bom
two-front x y zero = refl
two-front x y (suc zero) = refl
two-front x y (suc (suc at)) =
    let none : take at [] ≡ [] = take_all {A = ℕ} at [] (omega arith) in
    rw none refl

long-marked : (x y z : ℕ) (xs : List ℕ) (at : ℕ) → at < length (strip_bom (x ∷ y ∷ z ∷ xs)) → Marked (x ∷ y ∷ z ∷ xs) at
unfolding strip_bom
long-marked x y z xs at = elim (cases_Bool ((x == 239) && (y == 187) && (z == 191))) [
  | inl e ↦ λ lt.
      let same : strip_bom (x ∷ y ∷ z ∷ xs) ≡ xs = rw e refl in
      let short : at < length xs = rw same at lt in
      let place : length (x ∷ y ∷ z ∷ xs) - length xs + at ≡ suc (suc (suc at)) = omega arith in
      record {
        bound = rw (same, place) (omega arith);
        byte = rw (same, place) refl;
        front = rw (same, place) (rw e refl);
      }
  | inr e ↦ λ lt.
      let same : strip_bom (x ∷ y ∷ z ∷ xs) ≡ x ∷ y ∷ z ∷ xs = rw e refl in
      plain-marked (x ∷ y ∷ z ∷ xs) at (rw same at lt) same (plain-front x y z xs at e)
]

pub text-marked : (xs : List ℕ) (at : ℕ) → at < length (strip_bom xs) → Marked xs at
unfolding strip_bom
text-marked [] at lt = absurd (omega arith)
text-marked (x ∷ []) at lt = plain-marked (x ∷ []) at lt refl (one-front x at)
text-marked (x ∷ y ∷ []) at lt = plain-marked (x ∷ y ∷ []) at lt refl (two-front x y at)
text-marked (x ∷ y ∷ z ∷ xs) at short = long-marked x y z xs at short
