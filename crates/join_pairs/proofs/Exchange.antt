-- Pairs of the elements of two lists, by the first element or by the second: the same pairs in another order.
use Rattle.std.proofs.Common.{◌≡◌, ◌++◌, Bool, true, false, List, [], ◌∷◌, cond, filter, map, refl, ap, sym, subst, ◌∙◌, append_assoc}
use Rattle.std.specs.List.{flat_map}
use Rattle.std.specs.List.Sorted.{IsPermutation}
use Rattle.std.proofs.lemmas.List.Sorted.{IsPermutation-append_comm, IsPermutation-append_left, IsPermutation-append_right, IsPermutation-refl, IsPermutation-trans}

-- ---- what two functions give of each element

-- a part moves to the front of what follows
pub between : {A : Type 0} (a b c : List A) → IsPermutation (a ++ (b ++ c)) (b ++ (a ++ c))
between a b c =
    subst (λ l. IsPermutation l (b ++ (a ++ c))) (append_assoc a b c)
    (subst (λ l. IsPermutation ((a ++ b) ++ c) l) (append_assoc b a c)
    (IsPermutation-append_left c (a ++ b) (b ++ a) (IsPermutation-append_comm a b)))

module _ {X A : Type 0} (g h : X → List A) where
  pub both : (xs : List X) → IsPermutation (flat_map (λ x. g x ++ h x) xs) (flat_map g xs ++ flat_map h xs)
  both [] = IsPermutation-refl []
  both (x ∷ xs) =
      let gs = flat_map g xs in
      let hs = flat_map h xs in
      let rest : IsPermutation ((g x ++ h x) ++ flat_map (λ x. g x ++ h x) xs) ((g x ++ h x) ++ (gs ++ hs)) = IsPermutation-append_right (g x ++ h x) (flat_map (λ x. g x ++ h x) xs) (gs ++ hs) (both xs) in
      let moved : IsPermutation (g x ++ (h x ++ (gs ++ hs))) (g x ++ (gs ++ (h x ++ hs))) = IsPermutation-append_right (g x) (h x ++ (gs ++ hs)) (gs ++ (h x ++ hs)) (between (h x) gs hs) in
      IsPermutation-trans ((g x ++ h x) ++ flat_map (λ x. g x ++ h x) xs) ((g x ++ h x) ++ (gs ++ hs)) ((g x ++ gs) ++ (h x ++ hs)) rest
      (subst (λ l. IsPermutation l ((g x ++ gs) ++ (h x ++ hs))) (sym (append_assoc (g x) (h x) (gs ++ hs)))
      (subst (λ l. IsPermutation (g x ++ (h x ++ (gs ++ hs))) l) (sym (append_assoc (g x) gs (h x ++ hs))) moved))

pub flat_map-same : {X A : Type 0} (f g : X → List A) → ((x : X) → f x ≡ g x) → (xs : List X) → flat_map f xs ≡ flat_map g xs
flat_map-same f g e [] = refl
flat_map-same {X = X} {A = A} f g e (x ∷ xs) = ap (λ (l : List A). l ++ flat_map f xs) (e x) ∙ ap (λ (l : List A). g x ++ l) (flat_map-same f g e xs)

flat_map-none : {X A : Type 0} (xs : List X) → flat_map {X = X} {A = A} (λ x. []) xs ≡ []
flat_map-none [] = refl
flat_map-none (x ∷ xs) = flat_map-none xs

-- ---- pairs

module _ {A B C : Type 0} (p : A → B → Bool) (f : A → B → C) where
  -- those of an element of the second list
  abbrev pub with_second : List A → B → List C
  with_second xs y = map (λ x. f x y) (filter (λ x. p x y) xs)

  -- those of an element of the first list
  abbrev pub with_first : List B → A → List C
  with_first ys x = map (λ y. f x y) (filter (p x) ys)

  abbrev one : A → B → List C
  one x y = cond {A = List C} (p x y) (f x y ∷ []) []

  one_more : (x : A) (xs : List A) (y : B) → with_second (x ∷ xs) y ≡ one x y ++ with_second xs y
  one_more x xs y = by (p x y)
    where
      by : (b : Bool) → map (λ z. f z y) (cond {A = List A} b (x ∷ filter (λ z. p z y) xs) (filter (λ z. p z y) xs)) ≡ cond {A = List C} b (f x y ∷ []) [] ++ map (λ z. f z y) (filter (λ z. p z y) xs)
      by true = refl
      by false = refl

  firsts : (x : A) (ys : List B) → flat_map (one x) ys ≡ with_first ys x
  firsts x [] = refl
  firsts x (y ∷ ys) = by (p x y) (firsts x ys)
    where
      by : (b : Bool) → flat_map (one x) ys ≡ with_first ys x → cond {A = List C} b (f x y ∷ []) [] ++ flat_map (one x) ys ≡ map (λ z. f x z) (cond {A = List B} b (y ∷ filter (p x) ys) (filter (p x) ys))
      by true e = ap (λ (l : List C). f x y ∷ l) e
      by false e = e

  pub exchange : (xs : List A) (ys : List B) → IsPermutation (flat_map (with_second xs) ys) (flat_map (with_first ys) xs)
  exchange [] ys = subst (λ l. IsPermutation l []) (sym (flat_map-none {X = B} {A = C} ys)) (IsPermutation-refl [])
  exchange (x ∷ xs) ys =
      let apart = flat_map-same (with_second (x ∷ xs)) (λ y. one x y ++ with_second xs y) (one_more x xs) ys in
      let two = both (one x) (with_second xs) ys in
      subst (λ l. IsPermutation l (with_first ys x ++ flat_map (with_first ys) xs)) (sym apart)
      (IsPermutation-trans (flat_map (λ y. one x y ++ with_second xs y) ys) (flat_map (one x) ys ++ flat_map (with_second xs) ys) (with_first ys x ++ flat_map (with_first ys) xs) two
      (subst (λ l. IsPermutation (flat_map (one x) ys ++ flat_map (with_second xs) ys) (l ++ flat_map (with_first ys) xs)) (firsts x ys)
      (IsPermutation-append_right (flat_map (one x) ys) (flat_map (with_second xs) ys) (flat_map (with_first ys) xs) (exchange xs ys))))
