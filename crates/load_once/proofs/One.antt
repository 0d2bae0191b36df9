-- A list of one element.
use Rattle.std.proofs.Common.{◌≡◌, List, [], ◌∷◌, ◌++◌, length, ap, arith, length-append}

pub one_item : {A : Type 0} (all xs : List A) (x : A) → all ≡ xs ++ x ∷ [] → length all ≡ 1 → all ≡ x ∷ []
one_item all [] x e len = e
one_item all (y ∷ ys) x e len = absurd (omega (arith, ap length e, length-append (y ∷ ys) (x ∷ []), len))
