-- The first place of a list where a test passes.
use Rattle.std.proofs.Common.{◌≡◌, ◌≤◌, ◌<◌, ◌+◌, ◌-◌, ℕ, zero, suc, Bool, true, false, List, [], ◌∷◌, ◌++◌, Some, None, length, take, get_or, refl, inl, inr, arith}
use Rattle.std.specs.Prelude.{find, option_map}
use Rattle.std.specs.List.{position_from}
use Rattle.std.proofs.lemmas.Bool.{cases_Bool}

-- the place after those that fail
pub place-here : {A : Type 0} (p : A → Bool) (k : ℕ) (xs : List A) (i : ℕ) (d : A) → i < length xs → position_from p k (take i xs) ≡ None
    → p (get_or xs i d) ≡ true → position_from p k xs ≡ Some (k + i)
place-here p k [] i d lt none here = absurd (omega arith)
place-here p k (x ∷ xs) zero d lt none here =
    let same : k + 0 ≡ k = omega arith in
    rw (here, same) refl
place-here p k (x ∷ xs) (suc i) d lt none here = elim (cases_Bool (p x)) [
  | inl e ↦ cc (rw e at none)
  | inr e ↦
      let same : k + suc i ≡ (k + 1) + i = omega arith in
      rw (e, same) (place-here p (k + 1) xs i d (omega arith) (rw e at none) here)
]

-- one more place that fails
pub place-more : {A : Type 0} (p : A → Bool) (k : ℕ) (xs : List A) (i : ℕ) (d : A) → i < length xs → position_from p k (take i xs) ≡ None
    → p (get_or xs i d) ≡ false → position_from p k (take (suc i) xs) ≡ None
place-more p k [] i d lt none fails = absurd (omega arith)
place-more p k (x ∷ xs) zero d lt none fails = rw fails refl
place-more p k (x ∷ xs) (suc i) d lt none fails = elim (cases_Bool (p x)) [
  | inl e ↦ cc (rw e at none)
  | inr e ↦ rw e (place-more p (k + 1) xs i d (omega arith) (rw e at none) fails)
]

-- a later start
pub place-shift : {A : Type 0} (p : A → Bool) (k n : ℕ) (xs : List A) → position_from p (k + n) xs ≡ option_map (λ i. i + n) (position_from p k xs)
place-shift p k n [] = refl
place-shift p k n (x ∷ xs) = elim (cases_Bool (p x)) [
  | inl e ↦ rw e refl
  | inr e ↦
      let same : (k + n) + 1 ≡ (k + 1) + n = omega arith in
      rw (e, same) (place-shift p (k + 1) n xs)
]

-- a place in the first list
pub place-first : {A : Type 0} (p : A → Bool) (k at : ℕ) (xs ys : List A) → position_from p k xs ≡ Some at → position_from p k (xs ++ ys) ≡ Some at
place-first p k at [] ys found = cc found
place-first p k at (x ∷ xs) ys found = elim (cases_Bool (p x)) [
  | inl e ↦ rw e (rw e at found)
  | inr e ↦ rw e (place-first p (k + 1) at xs ys (rw e at found))
]

-- none in the first list
pub place-past : {A : Type 0} (p : A → Bool) (k : ℕ) (xs ys : List A) → position_from p k xs ≡ None → position_from p k (xs ++ ys) ≡ position_from p (k + length xs) ys
place-past p k [] ys none =
    let same : k + 0 ≡ k = omega arith in
    rw same refl
place-past p k (x ∷ xs) ys none = elim (cases_Bool (p x)) [
  | inl e ↦ cc (rw e at none)
  | inr e ↦
      let same : k + suc (length xs) ≡ (k + 1) + length xs = omega arith in
      rw (e, same) (place-past p (k + 1) xs ys (rw e at none))
]

-- what stands at the place
pub record Finds {A : Type 0} (p : A → Bool) (k at : ℕ) (xs : List A) (d : A) : Type 0 where
  pub from : k ≤ at
  pub within : at < k + length xs
  pub value : find p xs ≡ Some (get_or xs (at - k) d)

pub place-finds : {A : Type 0} (p : A → Bool) (k at : ℕ) (xs : List A) (d : A) → position_from p k xs ≡ Some at → Finds p k at xs d
place-finds p k at [] d found = cc found
place-finds p k at (x ∷ xs) d found = elim (cases_Bool (p x)) [
  | inl e ↦
      let found' : Some k ≡ Some at = rw e at found in
      let same : k ≡ at = cc found' in
      let none : at - k ≡ 0 = omega arith in
      record { from = omega arith; within = omega arith; value = rw (e, none) refl }
  | inr e ↦
      let rest = place-finds p (k + 1) at xs d (rw e at found) in
      let next : at - k ≡ suc (at - (k + 1)) = omega (arith, rest.from) in
      record { from = omega (arith, rest.from); within = omega (arith, rest.within); value = rw (e, next) rest.value }
]

pub place-finds-none : {A : Type 0} (p : A → Bool) (k : ℕ) (xs : List A) → position_from p k xs ≡ None → find p xs ≡ None
place-finds-none p k [] none = refl
place-finds-none p k (x ∷ xs) none = elim (cases_Bool (p x)) [
  | inl e ↦ cc (rw e at none)
  | inr e ↦ rw e (place-finds-none p (k + 1) xs (rw e at none))
]

-- none in the first list, and the place in the second
pub place-next : {A : Type 0} (p : A → Bool) (at : ℕ) (xs ys : List A) → position_from p 0 xs ≡ None → position_from p 0 ys ≡ Some at → position_from p 0 (xs ++ ys) ≡ Some (at + length xs)
place-next p at xs ys none found = rw (place-past p 0 xs ys none, place-shift p 0 (length xs) ys, found) refl

pub place-next-none : {A : Type 0} (p : A → Bool) (xs ys : List A) → position_from p 0 xs ≡ None → position_from p 0 ys ≡ None → position_from p 0 (xs ++ ys) ≡ None
place-next-none p xs ys none none' = rw (place-past p 0 xs ys none, place-shift p 0 (length xs) ys, none') refl

-- what a place says of a list: the first that passes
pub record IsFirst {A : Type 0} (p : A → Bool) (xs : List A) (at : ℕ) (d : A) : Type 0 where
  pub place : position_from p 0 xs ≡ Some at
  pub within : at < length xs
  pub value : find p xs ≡ Some (get_or xs at d)

pub is-first : {A : Type 0} (p : A → Bool) (xs : List A) (at : ℕ) (d : A) → position_from p 0 xs ≡ Some at → IsFirst p xs at d
is-first p xs at d found =
    let f = place-finds p 0 at xs d found in
    let same : at - 0 ≡ at = omega arith in
    record { place = found; within = omega (arith, f.within); value = rw same at f.value }

-- the first of three lists, one after the other
pub first-of-three : {A : Type 0} (p : A → Bool) (xs ys zs : List A) (at : ℕ) (d : A) → position_from p 0 xs ≡ Some at → IsFirst p (xs ++ (ys ++ zs)) at d
first-of-three p xs ys zs at d found = is-first p _ at d (place-first p 0 at xs (ys ++ zs) found)

pub second-of-three : {A : Type 0} (p : A → Bool) (xs ys zs : List A) (at : ℕ) (d : A) → position_from p 0 xs ≡ None → position_from p 0 ys ≡ Some at
    → IsFirst p (xs ++ (ys ++ zs)) (length xs + at) d
second-of-three p xs ys zs at d none found =
    let same : at + length xs ≡ length xs + at = omega arith in
    is-first p _ _ d (rw same at (place-next p at xs (ys ++ zs) none (place-first p 0 at ys zs found)))

pub third-of-three : {A : Type 0} (p : A → Bool) (xs ys zs : List A) (at : ℕ) (d : A) → position_from p 0 xs ≡ None → position_from p 0 ys ≡ None → position_from p 0 zs ≡ Some at
    → IsFirst p (xs ++ (ys ++ zs)) (length xs + length ys + at) d
third-of-three p xs ys zs at d none none' found =
    let same : (at + length ys) + length xs ≡ length xs + length ys + at = omega arith in
    is-first p _ _ d (rw same at (place-next p (at + length ys) xs (ys ++ zs) none (place-next p at ys zs none' found)))

pub none-of-three : {A : Type 0} (p : A → Bool) (xs ys zs : List A) → position_from p 0 xs ≡ None → position_from p 0 ys ≡ None → position_from p 0 zs ≡ None
    → find p (xs ++ (ys ++ zs)) ≡ None
none-of-three p xs ys zs a b c = place-finds-none p 0 _ (place-next-none p xs (ys ++ zs) a (place-next-none p ys zs b c))
