-- What a scan comes to when it meets more bytes.
use Rattle.std.specs.Prelude.{◌≡◌, ◌<◌, ◌≤◌, ◌+◌, ◌-◌, ◌^◌, ℕ, List, false, length, min, slice_index, true}
use Rattle.csv_rows.specs.Places.{place_after}
use Rattle.row_windows.specs.Seams.{is_line_end}
use Rattle.tile_source.specs.Scan.{cut_len}
use Rattle.tile_source.specs.declared.cut.Cut.{Cut}

-- it ended before the end of the bytes
pub record IsEnded (bytes : List ℕ) (count : ℕ) (new : Cut) : Type 0 where
  pub line : is_line_end (slice_index bytes count) ≡ true
  pub done : new.is_done ≡ true

-- or goes on behind them
pub record GoesOn (old : Cut) (bytes : List ℕ) (new : Cut) : Type 0 where
  pub on : new.is_done ≡ false
  pub place : new.place ≡ place_after old.place bytes

-- this many of the bytes come before the seam
pub record IsPassed (old : Cut) (bytes : List ℕ) (n : ℕ) (new : Cut) : Type 0 where
  pub count : n ≡ cut_len old.place (old.goal - old.at) bytes
  pub within : n ≤ length bytes
  pub high : old.goal < 2 ^ 64
  pub big : old.size < 2 ^ 64
  pub at : new.at ≡ min (old.at + n) (2 ^ 64 - 1)
  pub goal : new.goal ≡ old.goal
  pub size : new.size ≡ old.size
  pub ended : n < length bytes → IsEnded bytes n new
  pub goes_on : n ≡ length bytes → GoesOn old bytes new
