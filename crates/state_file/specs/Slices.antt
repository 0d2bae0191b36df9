-- What 8, 16, .. 64 steps of a bit make of each byte, one after another.
use Rattle.std.specs.Prelude.{◌≡◌, ◌<◌, ◌+◌, ◌*◌, ◌/◌, ◌%◌, ℕ, List, length, slice_index}
use Rattle.state_file.specs.Checksum.{shifted_by}

-- the first this many of 2048 entries
pub record AreSlicesTo (count : ℕ) (slices : List ℕ) : Type 0 where
  pub long : length slices ≡ 2048
  pub are : (at : ℕ) → at < count → slice_index slices at ≡ shifted_by (8 * (at / 256 + 1)) (at % 256)

-- all of them
abbrev pub AreSlices : List ℕ → Type 0
AreSlices slices = AreSlicesTo 2048 slices
