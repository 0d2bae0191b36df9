-- The names of a list of items, from a place on.
use Rattle.std.proofs.Common.{◌≡◌, ◌<◌, ◌+◌, ℕ, suc, List, ◌∷◌, ◌++◌, Option, Some, None, drop, drop-cons, get_or, length, refl, arith}
use Rattle.std.specs.Prelude.{filter_map}

-- an item that has a name
pub drop-some : {X : Type 0} (f : X → Option (List ℕ)) (xs : List X) (tail : List (List ℕ)) (i : ℕ) (x : X) (n : List ℕ) → i < length xs → x ≡ get_or xs i x → f x ≡ Some n
    → filter_map f (drop i xs) ++ tail ≡ n ∷ (filter_map f (drop (i + 1) xs) ++ tail)
drop-some f xs tail i x n lt is e =
    let here = drop-cons xs i x lt in
    let same : i + 1 ≡ suc i = omega arith in
    rw (here, ← is, e, same) refl

-- and one that has none
pub drop-none : {X : Type 0} (f : X → Option (List ℕ)) (xs : List X) (tail : List (List ℕ)) (i : ℕ) (x : X) → i < length xs → x ≡ get_or xs i x → f x ≡ None
    → filter_map f (drop i xs) ++ tail ≡ filter_map f (drop (i + 1) xs) ++ tail
drop-none f xs tail i x lt is e =
    let here = drop-cons xs i x lt in
    let same : i + 1 ≡ suc i = omega arith in
    rw (here, ← is, e, same) refl
