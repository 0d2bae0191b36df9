-- Whether an element of a list passes a test, for lists that are made of others.
use Rattle.std.proofs.Common.{◌≡◌, ◌||◌, ◌&&◌, ◌==◌, ◌⊎◌, inl, inr, ◌≢◌, ℕ, Bool, true, false, cond, filter, List, [], ◌∷◌, All, eqb, get_or, map, refl, ap, sym, ◌∙◌}
use Rattle.std.specs.List.{flat_map, list_any}
use Rattle.std.proofs.lemmas.Bool.{eq-eqb}
use Rattle.std.proofs.lemmas.Bool.Decides.{eqb_tells}
use Rattle.std.proofs.lemmas.List.Elements.{All-head, All-tail}
use Rattle.std.proofs.lemmas.List.Folds.{list_any-append, list_any_at}

and_true : (b : Bool) → b ≡ (b && true)
and_true true = refl
and_true false = refl

and_false : (b : Bool) → false ≡ (b && false)
and_false true = refl
and_false false = refl

module _ {X : Type 0} where
  pub any_congr : (p q : X → Bool) → ((x : X) → p x ≡ q x) → (xs : List X) → list_any p xs ≡ list_any q xs
  any_congr p q h [] = refl
  any_congr p q h (x ∷ xs) = ap (λ b. b || list_any p xs) (h x) ∙ ap (λ b. q x || b) (any_congr p q h xs)

  any_never : (xs : List X) → list_any (λ x. false) xs ≡ false
  any_never [] = refl
  any_never (x ∷ xs) = any_never xs

  pub any_both : (b : Bool) (q : X → Bool) (xs : List X) → list_any (λ x. b && q x) xs ≡ (b && list_any q xs)
  any_both true q xs = refl
  any_both false q xs = any_never xs

  pub any_filter : (p q : X → Bool) (xs : List X) → list_any p (filter q xs) ≡ list_any (λ x. p x && q x) xs
  any_filter p q [] = refl
  any_filter p q (x ∷ xs) = by (q x) (any_filter p q xs)
    where
      by : (b : Bool) → list_any p (filter q xs) ≡ list_any (λ y. p y && q y) xs → list_any p (cond {A = List X} b (x ∷ filter q xs) (filter q xs)) ≡ ((p x && b) || list_any (λ y. p y && q y) xs)
      by true e = ap (λ b. p x || b) e ∙ ap (λ b. b || list_any (λ y. p y && q y) xs) (and_true (p x))
      by false e = e ∙ ap (λ b. b || list_any (λ y. p y && q y) xs) (and_false (p x))

  module _ {Y : Type 0} (p : Y → Bool) where
    pub any_map : (h : X → Y) (xs : List X) → list_any p (map h xs) ≡ list_any (λ x. p (h x)) xs
    any_map h [] = refl
    any_map h (x ∷ xs) = ap (λ b. p (h x) || b) (any_map h xs)

    pub any_flat : (f : X → List Y) (xs : List X) → list_any p (flat_map f xs) ≡ list_any (λ x. list_any p (f x)) xs
    any_flat f [] = refl
    any_flat f (x ∷ xs) = list_any-append p (f x) (flat_map f xs) ∙ ap (λ b. list_any p (f x) || b) (any_flat f xs)

-- ---- numbers

absorb : (a b : Bool) → (b || (a && b)) ≡ b
absorb true true = refl
absorb true false = refl
absorb false true = refl
absorb false false = refl

-- whether a number is in a list
abbrev pub is_in : List ℕ → ℕ → Bool
is_in xs x = list_any (λ y. y == x) xs

-- a test of one number only
pub any_one : (x : ℕ) (h : ℕ → Bool) (xs : List ℕ) → list_any (λ y. (y == x) && h y) xs ≡ (is_in xs x && h x)
any_one x h [] = refl
any_one x h (y ∷ ys) = by (eqb_tells y x) (any_one x h ys)
  where
    by : ((eqb y x ≡ true) × (y ≡ x)) ⊎ ((eqb y x ≡ false) × (y ≢ x)) → list_any (λ z. (z == x) && h z) ys ≡ (is_in ys x && h x) → (((y == x) && h y) || list_any (λ z. (z == x) && h z) ys) ≡ (((y == x) || is_in ys x) && h x)
    by (inl s) rest =
        ap (λ b. (b && h y) || list_any (λ z. (z == x) && h z) ys) s.0 ∙ ap (λ (k : ℕ). h k || list_any (λ z. (z == x) && h z) ys) s.1 ∙ ap (λ b. h x || b) rest ∙ absorb (is_in ys x) (h x)
        ∙ sym (ap (λ b. (b || is_in ys x) && h x) s.0)
    by (inr s) rest = ap (λ b. (b && h y) || list_any (λ z. (z == x) && h z) ys) s.0 ∙ rest ∙ sym (ap (λ b. (b || is_in ys x) && h x) s.0)

pub all_in : (xs : List ℕ) → All (λ x. is_in xs x ≡ true) xs
all_in xs = λ k d low. list_any_at (λ y. y == get_or xs k d) xs k d low (eq-eqb (get_or xs k d) (get_or xs k d) refl)

-- tests that differ only for what is not in the list keep the same of it
pub filter_same : (g : Bool → Bool) (p q m : ℕ → Bool) → ((x : ℕ) → p x ≡ (m x && q x)) → (xs : List ℕ) → All (λ x. m x ≡ true) xs → filter (λ x. g (p x)) xs ≡ filter (λ x. g (q x)) xs
filter_same g p q m h [] a = refl
filter_same g p q m h (x ∷ xs) a =
    ap (λ b. cond {A = List ℕ} (g b) (x ∷ filter (λ y. g (p y)) xs) (filter (λ y. g (p y)) xs)) (h x ∙ ap (λ b. b && q x) (All-head (λ y. m y ≡ true) x xs a))
    ∙ ap (λ (l : List ℕ). cond {A = List ℕ} (g (q x)) (x ∷ l) l) (filter_same g p q m h xs (All-tail (λ y. m y ≡ true) x xs a))
