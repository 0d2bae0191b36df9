-- A list of three that was popped three times.
use Rattle.std.proofs.Common.{◌≡◌, List, [], ◌∷◌, ◌++◌, length, length-append, ap, sym, subst, arith, ℕ}
use mathlib.Core.Option.{some}
use lib.ListN.{get_elem?}
use Rattle.lock_book.proofs.Uses.{at_last, at_longer, both}

pub three : {A : Type 0} (all xs ys zs : List A) (x y z : A) → all ≡ xs ++ z ∷ [] → xs ≡ ys ++ y ∷ [] → ys ≡ zs ++ x ∷ [] → length all ≡ 3 → (get_elem? all 0 ≡ some x) × (get_elem? all 1 ≡ some y) × (get_elem? all 2 ≡ some z)
three {A} all xs ys zs x y z e f h l =
    let n : length xs ≡ 2 = omega (arith, ap length e, length-append xs (z ∷ []), l) in
    let two = both xs ys zs x y f h n in
    let up : (i : ℕ) (w : A) → get_elem? xs i ≡ some w → get_elem? all i ≡ some w = (λ i w a. subst (λ (ws : List A). get_elem? ws i ≡ some w) (sym e) (at_longer xs (z ∷ []) i w a)) in
    (up 0 x two.0, up 1 y two.1, subst (λ (ws : List A). get_elem? ws 2 ≡ some z) (sym e) (at_last xs z 2 n))
