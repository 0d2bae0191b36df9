-- Elements in the order of their keys.
use Rattle.std.proofs.Common.{◌≡◌, ◌∙◌, true, false, refl, ap, sym}
use Rattle.std.specs.Cmp.{IsStrictWeakOrder, IsTotalOrder}
use Rattle.std.specs.Ordering.{is_lt, ordering_reverse}
use Rattle.std.specs.declared.cmp.Ordering.{Ordering}
use Rattle.std.specs.declared.cmp.Ordering.TheVariants.{Less, Equal, Greater}

not_back : (r : Ordering) → is_lt (ordering_reverse r) ≡ true → is_lt r ≡ false
not_back Less e = cc
not_back Equal e = refl
not_back Greater e = refl

module _ {K : Type 0} {R : K → K → Ordering} (o : IsTotalOrder R) where
  no_less : (x y z : K) (r s : Ordering) → R y x ≡ r → R x z ≡ s → is_lt (R x y) ≡ false → is_lt (R y z) ≡ false → is_lt s ≡ false
  no_less x y z r Equal p q a b = refl
  no_less x y z r Greater p q a b = refl
  no_less x y z Less Less p q a b = sym (ap is_lt (o.trans y x z p q)) ∙ b
  no_less x y z Equal Less p q a b = sym (ap is_lt (o.congr y x z p ∙ q)) ∙ b
  no_less x y z Greater Less p q a b = sym (ap is_lt (o.antisymm x y ∙ ap ordering_reverse p)) ∙ a

  pub ranks_by : {X : Type 0} (key : X → K) → IsStrictWeakOrder (λ x y. is_lt (R (key x) (key y)))
  ranks_by key = record {
    one_way = λ x y h. not_back (R (key y) (key x)) (ap is_lt (sym (o.antisymm (key x) (key y))) ∙ h);
    chain = λ x y z a b. no_less (key x) (key y) (key z) _ _ refl refl a b;
  }
