-- The bytes that a mask stands for.
use Rattle.std.specs.Prelude.{◌≡◌, ◌<◌, ℕ, List, length, slice_index}

-- a vector has 64 bytes, and these are they
pub record HasBytes (v : List ℕ) (byte : ℕ → ℕ) : Type 0 where
  pub long : length v ≡ 64
  pub each : (k : ℕ) → k < 64 → slice_index v k ≡ byte k
