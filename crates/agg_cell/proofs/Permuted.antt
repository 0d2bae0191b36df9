-- What holds of a list and each other order of it: what holds of the list itself, of two neighbours that change places,
-- behind the same element, and through a third order.
use Rattle.std.proofs.Common.{◌<◌, ℕ, zero, suc, List, [], ◌∷◌, length, set, get_or, arith}
use Rattle.std.specs.List.{swap}
use Rattle.std.specs.List.Sorted.{IsPermutation}
use Rattle.std.proofs.lemmas.List.Sorted.{IsPermutation-keeps}

module _ {X : Type 0} (R : List X → List X → Type 0) (same : (xs : List X) → R xs xs) (behind : (x : X) (xs ys : List X) → R xs ys → R (x ∷ xs) (x ∷ ys))
    (neighbours : (x y : X) (xs : List X) → R (x ∷ y ∷ xs) (y ∷ x ∷ xs)) (through : (xs ys zs : List X) → R xs ys → R ys zs → R xs zs) where
  -- the first element and one behind it
  front : (x d : X) (xs : List X) (j : ℕ) → j < length xs → R (x ∷ xs) (get_or xs j d ∷ set xs j x)
  front x d [] j h = absurd (omega arith)
  front x d (y ∷ ys) zero h = neighbours x y ys
  front x d (y ∷ ys) (suc j) h =
      let other = get_or ys j d in
      through (x ∷ y ∷ ys) (y ∷ x ∷ ys) (other ∷ y ∷ set ys j x) (neighbours x y ys)
      (through (y ∷ x ∷ ys) (y ∷ other ∷ set ys j x) (other ∷ y ∷ set ys j x) (behind y (x ∷ ys) (other ∷ set ys j x) (front x d ys j (omega arith))) (neighbours y other (set ys j x)))

  -- any two elements
  swapped : (d : X) (xs : List X) (i j : ℕ) → i < length xs → j < length xs → R xs (set (set xs i (get_or xs j d)) j (get_or xs i d))
  swapped d [] i j h k = absurd (omega arith)
  swapped d (x ∷ xs) zero zero h k = same (x ∷ xs)
  swapped d (x ∷ xs) zero (suc j) h k = front x d xs j (omega arith)
  swapped d (x ∷ xs) (suc i) zero h k = front x d xs i (omega arith)
  swapped d (x ∷ xs) (suc i) (suc j) h k = behind x xs (set (set xs i (get_or xs j d)) j (get_or xs i d)) (swapped d xs i j (omega arith) (omega arith))

  by_swap : (xs : List X) (i j : ℕ) → i < length xs → j < length xs → R xs (swap xs i j)
  by_swap [] i j h k = same []
  by_swap (x ∷ xs) i j h k = swapped x (x ∷ xs) i j h k

  pub permuted : (xs ys : List X) → IsPermutation xs ys → R xs ys
  permuted xs ys p = IsPermutation-keeps xs (λ l. R xs l) (same xs) (λ l i j h k so_far. through xs l (swap l i j) so_far (by_swap l i j h k)) ys p
