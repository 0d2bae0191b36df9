-- The greatest number of words that begin a query, one fewer at a time.
use Rattle.std.proofs.Common.{◌≡◌, ◌<◌, ◌-◌, zero, suc, ℕ, List, true, false, arith, refl, take}
use Rattle.input_hints.specs.Wrong.{is_begun, most_begun}

module _ (places words : List (List ℕ)) where
  -- that many begin one
  pub all_begun : (count : ℕ) → 0 < count → is_begun places (take count words) ≡ true → most_begun places count words ≡ count
  all_begun zero some begun = absurd (omega (arith, some))
  all_begun (suc count) some begun = rw begun refl

  -- that many begin none
  pub fewer_begun : (count : ℕ) → 0 < count → is_begun places (take count words) ≡ false → most_begun places (count - 1) words ≡ most_begun places count words
  fewer_begun zero some none = absurd (omega (arith, some))
  fewer_begun (suc count) some none = let less : suc count - 1 ≡ count = omega arith in rw (less, none) refl
