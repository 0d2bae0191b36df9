-- What holds of each element of a list at its place.
use Rattle.std.proofs.Common.{◌≡◌, ◌⊎◌, inl, inr, ⊎_elim, ℕ, zero, suc, ◌+◌, ◌<◌, List, [], ◌∷◌, ◌++◌, length, length-append, map, get_or, refl, sym, ap, ◌∙◌, subst, arith}
use mathlib.Core.Option.{some, some-injective, some-ne-none}
use lib.ListN.{get_elem?}
use Rattle.atomic_table.proofs.Lists.{at_last, at_longer}

module _ {A : Type 0} where
  -- an element at a place of a longer list
  snoc_at : (xs : List A) (x : A) (k : ℕ) (a : A) → get_elem? (xs ++ x ∷ []) k ≡ some a → (get_elem? xs k ≡ some a) ⊎ ((length xs ≡ k) × (x ≡ a))
  snoc_at [] x zero a e = inr (refl, some-injective x a e)
  snoc_at [] x (suc k) a e = absurd (cc)
  snoc_at (y ∷ ys) x zero a e = inl e
  snoc_at (y ∷ ys) x (suc k) a e = ⊎_elim (λ (l : get_elem? ys k ≡ some a). inl l) (λ (r : (length ys ≡ k) × (x ≡ a)). inr (ap suc r.0, r.1)) (snoc_at ys x k a e)

  -- what stands at a place is read there
  pub read_at : (l : List A) (i : ℕ) (a : A) → get_elem? l i ≡ some a → (i < length l) × (a ≡ get_or l i a)
  read_at [] i a e = absurd (some-ne-none a (sym e))
  read_at (x ∷ xs) zero a e = (omega arith, sym (some-injective x a e))
  read_at (x ∷ xs) (suc i) a e = let r = read_at xs i a e in (omega (arith, r.0), r.1)

  pub one_more : (all front : List A) (last : A) → all ≡ front ++ last ∷ [] → length all ≡ length front + 1
  one_more all front last e = ap length e ∙ length-append front (last ∷ [])

  module _ (P : ℕ → A → Type 0) where
    -- one is put behind the others
    pub pushed : (front all : List A) (last : A) → all ≡ front ++ last ∷ [] → ((k : ℕ) (a : A) → get_elem? front k ≡ some a → P k a) → P (length front) last → (k : ℕ) (a : A) → get_elem? all k ≡ some a → P k a
    pushed front all last e each own k a at = ⊎_elim
        (each k a)
        (λ (s : (length front ≡ k) × (last ≡ a)). subst (λ (z : A). P k z) s.1 (subst (λ (j : ℕ). P j last) s.0 own))
        (snoc_at front last k a (sym (ap (λ (l : List A). get_elem? l k) e) ∙ at))

    -- one is taken from behind them
    pub popped : (front all : List A) (last : A) → all ≡ front ++ last ∷ [] → ((k : ℕ) (a : A) → get_elem? all k ≡ some a → P k a) → (k : ℕ) (a : A) → get_elem? front k ≡ some a → P k a
    popped front all last e each k a at = each k a (ap (λ (l : List A). get_elem? l k) e ∙ at_longer front (last ∷ []) k a at)

    pub at_end : (front all : List A) (last : A) → all ≡ front ++ last ∷ [] → ((k : ℕ) (a : A) → get_elem? all k ≡ some a → P k a) → P (length front) last
    at_end front all last e each = each (length front) last (ap (λ (l : List A). get_elem? l (length front)) e ∙ at_last front last (length front) refl)

    -- the first is taken
    pub first : (all left : List A) (x : A) → all ≡ x ∷ left → ((k : ℕ) (a : A) → get_elem? all k ≡ some a → P k a) → P 0 x
    first all left x e each = each 0 x (ap (λ (l : List A). get_elem? l 0) e)

    pub others : (all left : List A) (x : A) → all ≡ x ∷ left → ((k : ℕ) (a : A) → get_elem? all k ≡ some a → P k a) → (k : ℕ) (a : A) → get_elem? left k ≡ some a → P (suc k) a
    others all left x e each k a at = each (suc k) a (ap (λ (l : List A). get_elem? l (suc k)) e ∙ at)

-- what is made of what was made
pub map_map : {A B C : Type 0} (f : A → B) (h : B → C) (l : List A) → map h (map f l) ≡ map (λ a. h (f a)) l
map_map f h [] = refl
map_map f h (a ∷ l) = ap (λ z. h (f a) ∷ z) (map_map f h l)
