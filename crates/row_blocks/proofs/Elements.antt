-- All elements of a list that has two parts, and some element of a list by its front.
use Rattle.std.proofs.Common.{◌≡◌, ◌<◌, ◌++◌, ◌⊎◌, inl, inr, ℕ, zero, suc, List, [], ◌∷◌, All, Any, length, slice_index_or, refl, sym, subst, arith}
use Rattle.std.proofs.lemmas.List.Elements.{All-cons, All-head, All-nil, All-tail}

pub All-apart : {X : Type 0} (P : X → Type 0) (xs ys : List X) → All P (xs ++ ys) → All P xs × All P ys
All-apart P [] ys h = (All-nil P, h)
All-apart P (x ∷ xs) ys h =
    let more = All-apart P xs ys (All-tail P x (xs ++ ys) h) in
    (All-cons P x xs (All-head P x (xs ++ ys) h) more.0, more.1)

module _ {A : Type 0} (P : A → Type 0) where
  pub any_none : Any P [] → ⊥
  any_none a = omega (arith, a.2)

  pub any_head : (x : A) (xs : List A) → P x → Any P (x ∷ xs)
  any_head x xs p = (0, x, omega arith, refl, p)

  pub any_tail : (x : A) (xs : List A) → Any P xs → Any P (x ∷ xs)
  any_tail x xs a = (suc a.0, a.1, omega (arith, a.2), a.3, a.4)

  pub any_cases : (x : A) (xs : List A) → Any P (x ∷ xs) → P x ⊎ Any P xs
  any_cases x xs a = by a.0 a.1 a.2 a.3 a.4
    where
      by : (k : ℕ) (y : A) → k < length (x ∷ xs) → slice_index_or (x ∷ xs) k y ≡ y → P y → P x ⊎ Any P xs
      by zero y l e p = inl (subst P (sym e) p)
      by (suc k) y l e p = inr (k, y, omega (arith, l), e, p)

  pub any_left : (xs ys : List A) → Any P xs → Any P (xs ++ ys)
  any_left [] ys a = absurd (any_none a)
  any_left (x ∷ xs) ys a = by (any_cases x xs a) (any_left xs ys)
    where
      by : P x ⊎ Any P xs → (Any P xs → Any P (xs ++ ys)) → Any P (x ∷ (xs ++ ys))
      by (inl p) rest = any_head x (xs ++ ys) p
      by (inr b) rest = any_tail x (xs ++ ys) (rest b)

  pub any_right : (xs ys : List A) → Any P ys → Any P (xs ++ ys)
  any_right [] ys a = a
  any_right (x ∷ xs) ys a = any_tail x (xs ++ ys) (any_right xs ys a)

  pub any_more : (xs : List A) (y : A) → Any P xs → Any P (xs ++ y ∷ [])
  any_more xs y a = any_left xs (y ∷ []) a
