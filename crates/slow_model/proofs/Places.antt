-- A search for the first place that passes a test, one element at a time.
use Rattle.std.proofs.Common.{◌≡◌, ◌+◌, ◌<◌, ℕ, List, Bool, true, false, length, get_or, drop, refl, add-one, drop-cons, Some}
use Rattle.std.specs.List.{position_from}

-- the search from a place on ends there where the element passes
pub position_here : {X : Type 0} (p : X → Bool) (xs : List X) (at n : ℕ) (d : X) → at < length xs → p (get_or xs at d) ≡ true → position_from p n (drop at xs) ≡ Some n
position_here p xs at n d within passes = rw (drop-cons xs at d, passes) refl

-- and goes on behind it where it does not
pub position_later : {X : Type 0} (p : X → Bool) (xs : List X) (at n : ℕ) (d : X) → at < length xs → p (get_or xs at d) ≡ false → position_from p n (drop at xs) ≡ position_from p (n + 1) (drop (at + 1) xs)
position_later p xs at n d within fails = rw (drop-cons xs at d, fails, add-one at, add-one n) refl
