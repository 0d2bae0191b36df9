-- The values of a group, one aggregate at a time.
use Rattle.std.proofs.Common.{◌≡◌, ◌∙◌, ◌++◌, ◌∷◌, [], ◌⊎◌, inl, inr, ap, refl, sym, append_assoc, append-nil, ℕ, List, map}
use Rattle.std.specs.List.{zip}

-- one more value is put
pub value-more : {X Y : Type 0} (f : X × Y → List ℕ) (row next whole : List (List ℕ)) (xs more_xs : List X) (ys more_ys : List Y) (x : X) (y : Y)
    → xs ≡ x ∷ more_xs → ys ≡ y ∷ more_ys → next ≡ row ++ f (x, y) ∷ [] → row ++ map f (zip xs ys) ≡ whole → next ++ map f (zip more_xs more_ys) ≡ whole
value-more f row next whole xs more_xs ys more_ys x y xs_is ys_is next_is h =
    let left : map f (zip xs ys) ≡ f (x, y) ∷ map f (zip more_xs more_ys) = rw (xs_is, ys_is) refl in
    rw next_is (append_assoc row (f (x, y) ∷ []) (map f (zip more_xs more_ys)) ∙ ap (λ (vs : List (List ℕ)). row ++ vs) (sym left) ∙ h)

-- none is left
no_pairs : {X Y : Type 0} (xs : List X) → zip {K = X} {X = Y} xs [] ≡ []
no_pairs [] = refl
no_pairs (x ∷ xs) = refl

pub values-end : {X Y : Type 0} (f : X × Y → List ℕ) (row whole : List (List ℕ)) (xs : List X) (ys : List Y) → (xs ≡ []) ⊎ (ys ≡ []) → row ++ map f (zip xs ys) ≡ whole → row ≡ whole
values-end f row whole xs ys (inl e) h = sym (append-nil row) ∙ (rw e at h)
values-end f row whole xs ys (inr e) h =
    let none : zip xs ys ≡ [] = rw e (no_pairs xs) in
    sym (append-nil row) ∙ (rw none at h)

-- the first of some pairs, and none
pub pairs-more : {X Y : Type 0} (f : X × Y → List ℕ) (xs more_xs : List X) (ys more_ys : List Y) (x : X) (y : Y) → xs ≡ x ∷ more_xs → ys ≡ y ∷ more_ys → map f (zip xs ys) ≡ f (x, y) ∷ map f (zip more_xs more_ys)
pairs-more f xs more_xs ys more_ys x y xs_is ys_is = rw (xs_is, ys_is) refl

pub pairs-end : {X Y : Type 0} (f : X × Y → List ℕ) (xs : List X) (ys : List Y) → (xs ≡ []) ⊎ (ys ≡ []) → map f (zip xs ys) ≡ []
pairs-end f xs ys (inl e) = rw e refl
pairs-end f xs ys (inr e) =
    let none : zip xs ys ≡ [] = rw e (no_pairs xs) in
    ap (map f) none
