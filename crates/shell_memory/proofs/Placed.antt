-- What a change at one place leaves beside each place.
use Rattle.std.proofs.Common.{◌≡◌, ◌≢◌, ◌⊎◌, inl, inr, ℕ, true, false, Option, refl, sym}
use Rattle.std.proofs.lemmas.Bool.{cases_Bool}
use Rattle.std.specs.BTreeMap.{BTreeMap, UpdatesBy, get_by, is_at}
use Rattle.std.specs.FinMap.{nat_cmp-IsAntisymmetric}
use Rattle.std.specs.Ordering.{is_eq, nat_cmp}
use Rattle.std.specs.declared.cmp.Ordering.{Ordering}
use Rattle.std.specs.declared.cmp.Ordering.TheVariants.{Less, Equal, Greater}

is_equal : (o : Ordering) → is_eq o ≡ true → o ≡ Equal
is_equal Less e = cc
is_equal Equal e = refl
is_equal Greater e = cc

module _ {X : Type 0} where
  -- what stands beside a place
  abbrev pub beside : BTreeMap ℕ X → ℕ → Option X
  beside m place = get_by (nat_cmp place) m

  -- afterwards this stands beside the place, and beside each other what stood there
  pub record Sets (m n : BTreeMap ℕ X) (place : ℕ) (w : Option X) : Type 0 where
    pub there : beside n place ≡ w
    pub others : (other : ℕ) → other ≢ place → beside n other ≡ beside m other

  -- a change at a place
  pub sets : (place : ℕ) (m n : BTreeMap ℕ X) (w : Option X) → UpdatesBy nat_cmp (nat_cmp place) m n w → Sets m n place w
  sets place m n w h = record { there = h.1; others = λ other differs. h.2 other (no other differs) }
    where
      no : (other : ℕ) → other ≢ place → is_at (nat_cmp place) other ≡ false
      no other differs = by (cases_Bool (is_eq (nat_cmp place other)))
        where
          by : (is_eq (nat_cmp place other) ≡ true) ⊎ (is_eq (nat_cmp place other) ≡ false) → is_at (nat_cmp place) other ≡ false
          by (inl y) = absurd (differs (sym (nat_cmp-IsAntisymmetric place other (is_equal (nat_cmp place other) y))))
          by (inr n) = n
