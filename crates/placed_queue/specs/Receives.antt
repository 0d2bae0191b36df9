-- What a receive writes.
use Rattle.std.specs.Prelude.{◌≡◌, ℕ, List, length, take, drop}

-- the bytes begin with a message of that length, and are as they were after it
pub record Has (before after message : List ℕ) (n : ℕ) : Type 0 where
  pub front : take n after ≡ message
  pub counted : length message ≡ n
  pub behind : drop n after ≡ drop n before
  pub room : length after ≡ length before
