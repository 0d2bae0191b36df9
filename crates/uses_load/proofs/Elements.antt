-- What holds of each element of a list, and one that is taken off its end, put there, or read.
use Rattle.std.proofs.Common.{◌≡◌, ℕ, zero, suc, ◌+◌, ◌<◌, List, [], ◌∷◌, ◌++◌, length, length-append, get_or, refl, sym, ap, ◌∙◌, subst, ⊎_elim, arith}
use mathlib.Core.Option.{some, some-injective, some-ne-none}
use lib.ListN.{get_elem?}
use Rattle.atomic_table.proofs.Lists.{at_last, at_longer, at_snoc}

module _ {A : Type 0} where
  -- the list that is left, the element and the length
  module _ (P : A → Type 0) (all front : List A) (last : A) (e : all ≡ front ++ last ∷ []) where
    pub of_last : ((i : ℕ) (p : A) → get_elem? all i ≡ some p → P p) → P last
    of_last each = each (length front) last (ap (λ (l : List A). get_elem? l (length front)) e ∙ at_last front last (length front) refl)

    pub of_front : ((i : ℕ) (p : A) → get_elem? all i ≡ some p → P p) → (i : ℕ) (p : A) → get_elem? front i ≡ some p → P p
    of_front each i p h = each i p (ap (λ (l : List A). get_elem? l i) e ∙ at_longer front (last ∷ []) i p h)

    pub of_pushed : ((i : ℕ) (p : A) → get_elem? front i ≡ some p → P p) → P last → (i : ℕ) (p : A) → get_elem? all i ≡ some p → P p
    of_pushed each own i p h = ⊎_elim (each i p) (λ (s : last ≡ p). subst P s own) (at_snoc front last p i (sym (ap (λ (l : List A). get_elem? l i) e) ∙ h))

  pub one_more : (all front : List A) (last : A) → all ≡ front ++ last ∷ [] → length all ≡ length front + 1
  one_more all front last e = ap length e ∙ length-append front (last ∷ [])

  -- what stands at a place is read there
  pub read_at : (l : List A) (i : ℕ) (a : A) → get_elem? l i ≡ some a → (i < length l) × (a ≡ get_or l i a)
  read_at [] i a e = absurd (some-ne-none a (sym e))
  read_at (x ∷ xs) zero a e = (omega arith, sym (some-injective x a e))
  read_at (x ∷ xs) (suc i) a e = let r = read_at xs i a e in (omega (arith, r.0), r.1)
