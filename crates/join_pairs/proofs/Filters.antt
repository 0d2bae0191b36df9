-- Facts about filtered lists.
use Rattle.std.proofs.Common.{◌≡◌, ◌++◌, Bool, true, false, cond, filter, List, [], ◌∷◌, All, refl, ap, subst, ◌∙◌}
use Rattle.std.specs.List.{flat_map}
use Rattle.std.specs.List.Sorted.{IsPermutation}
use Rattle.std.proofs.lemmas.List.Elements.{All-head, All-tail}
use Rattle.row_blocks.proofs.Permute.{flat_map-permutation}

module _ {X : Type 0} (p : X → Bool) where
  abbrev kept : X → List X
  kept x = cond {A = List X} (p x) (x ∷ []) []

  as_flat : (xs : List X) → flat_map kept xs ≡ filter p xs
  as_flat [] = refl
  as_flat (x ∷ xs) = by (p x) (as_flat xs)
    where
      by : (b : Bool) → flat_map kept xs ≡ filter p xs → cond {A = List X} b (x ∷ []) [] ++ flat_map kept xs ≡ cond {A = List X} b (x ∷ filter p xs) (filter p xs)
      by true e = ap (λ (l : List X). x ∷ l) e
      by false e = e

  -- lists with the same elements stay such
  pub filter-permutation : (xs ys : List X) → IsPermutation xs ys → IsPermutation (filter p xs) (filter p ys)
  filter-permutation xs ys h =
      subst (λ l. IsPermutation l (filter p ys)) (as_flat xs) (subst (IsPermutation (flat_map kept xs)) (as_flat ys) (flat_map-permutation kept xs ys h))

  pub filter-none : (xs : List X) → All (λ x. p x ≡ false) xs → filter p xs ≡ []
  filter-none [] h = refl
  filter-none (x ∷ xs) h = by (p x) (All-head (λ x. p x ≡ false) x xs h) (filter-none xs (All-tail (λ x. p x ≡ false) x xs h))
    where
      by : (b : Bool) → b ≡ false → filter p xs ≡ [] → cond {A = List X} b (x ∷ filter p xs) (filter p xs) ≡ []
      by true e rest = cc
      by false e rest = rest

  pub filter-never : ((x : X) → p x ≡ false) → (xs : List X) → filter p xs ≡ []
  filter-never h [] = refl
  filter-never h (x ∷ xs) = by (p x) (h x) (filter-never h xs)
    where
      by : (b : Bool) → b ≡ false → filter p xs ≡ [] → cond {A = List X} b (x ∷ filter p xs) (filter p xs) ≡ []
      by true e rest = cc
      by false e rest = rest

  pub filter-one : (x : X) → p x ≡ true → filter p (x ∷ []) ≡ x ∷ []
  filter-one x e = ap (λ b. cond {A = List X} b (x ∷ []) []) e

  pub filter-not_one : (x : X) → p x ≡ false → filter p (x ∷ []) ≡ []
  filter-not_one x e = ap (λ b. cond {A = List X} b (x ∷ []) []) e

  -- a test that passes no more than another may come alone
  pub filter-within : (q : X → Bool) → ((x : X) → p x ≡ true → q x ≡ true) → (xs : List X) → filter p (filter q xs) ≡ filter p xs
  filter-within q h [] = refl
  filter-within q h (x ∷ xs) = by (p x) (q x) refl (h x) (filter-within q h xs)
    where
      by : (b c : Bool) → p x ≡ b → (b ≡ true → c ≡ true) → filter p (filter q xs) ≡ filter p xs → filter p (cond {A = List X} c (x ∷ filter q xs) (filter q xs)) ≡ cond {A = List X} b (x ∷ filter p xs) (filter p xs)
      by true true e g rest = ap (λ b. cond {A = List X} b (x ∷ filter p (filter q xs)) (filter p (filter q xs))) e ∙ ap (λ (l : List X). x ∷ l) rest
      by true false e g rest = let no : false ≡ true = g refl in cc
      by false true e g rest = ap (λ b. cond {A = List X} b (x ∷ filter p (filter q xs)) (filter p (filter q xs))) e ∙ rest
      by false false e g rest = rest
