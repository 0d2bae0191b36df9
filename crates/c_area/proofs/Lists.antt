-- Lists of which each element has a property that may tell its place.
use Rattle.std.proofs.Common.{◌≡◌, ℕ, List, [], ◌∷◌, ◌++◌, length, refl, ap, ◌∙◌, subst}
use mathlib.Core.Option.{some}
use lib.ListN.{get_elem?}
use Rattle.lock_book.proofs.Uses.{at_last, at_longer}

-- what stands at the end
pub at_end : {A : Type 0} (all xs : List A) (x : A) → all ≡ xs ++ x ∷ [] → get_elem? all (length xs) ≡ some x
at_end {A} all xs x is = ap (λ (l : List A). get_elem? l (length xs)) is ∙ at_last xs x (length xs) refl

module _ {A : Type 0} (P : ℕ → A → Type 0) where
  -- what is true of each at its place is true of all but the last, and of the last
  pub each_but_last : (all xs : List A) (x : A) → all ≡ xs ++ x ∷ [] → ((k : ℕ) (y : A) → get_elem? all k ≡ some y → P k y) → ((k : ℕ) (y : A) → get_elem? xs k ≡ some y → P k y) × P (length xs) x
  each_but_last all xs x is each =
      let h : (k : ℕ) (y : A) → get_elem? (xs ++ x ∷ []) k ≡ some y → P k y = subst (λ (l : List A). (k : ℕ) (y : A) → get_elem? l k ≡ some y → P k y) is each in
      (λ k y e. h k y (at_longer xs (x ∷ []) k y e), h (length xs) x (at_last xs x (length xs) refl))
