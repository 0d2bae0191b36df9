-- The first place of a list where a test passes, as a loop finds it.
use Rattle.std.proofs.Common.{◌≡◌, ◌<◌, ◌+◌, ℕ, zero, suc, Bool, true, false, List, [], ◌∷◌, Some, None, length, take, get_or, refl, inl, inr, arith}
use Rattle.std.specs.List.{position_from}
use Rattle.std.proofs.lemmas.Bool.{cases_Bool}

-- the place after those that fail
pub place-here : {A : Type 0} (p : A → Bool) (k : ℕ) (xs : List A) (i : ℕ) (d : A) → i < length xs → position_from p k (take i xs) ≡ None
    → p (get_or xs i d) ≡ true → position_from p k xs ≡ Some (k + i)
place-here p k [] i d lt none here = absurd (omega arith)
place-here p k (x ∷ xs) zero d lt none here =
    let same : k + 0 ≡ k = omega arith in
    rw (here, same) refl
place-here p k (x ∷ xs) (suc i) d lt none here = elim (cases_Bool (p x)) [
  | inl e ↦ cc (rw e at none)
  | inr e ↦
      let same : k + suc i ≡ (k + 1) + i = omega arith in
      rw (e, same) (place-here p (k + 1) xs i d (omega arith) (rw e at none) here)
]

-- one more place that fails
pub place-more : {A : Type 0} (p : A → Bool) (k : ℕ) (xs : List A) (i : ℕ) (d : A) → i < length xs → position_from p k (take i xs) ≡ None
    → p (get_or xs i d) ≡ false → position_from p k (take (suc i) xs) ≡ None
place-more p k [] i d lt none fails = absurd (omega arith)
place-more p k (x ∷ xs) zero d lt none fails = rw fails refl
place-more p k (x ∷ xs) (suc i) d lt none fails = elim (cases_Bool (p x)) [
  | inl e ↦ cc (rw e at none)
  | inr e ↦ rw e (place-more p (k + 1) xs i d (omega arith) (rw e at none) fails)
]
