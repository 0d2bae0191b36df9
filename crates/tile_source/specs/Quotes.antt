-- A scan that goes from quote to quote.
use Rattle.std.specs.Prelude.{◌≡◌, ◌≢◌, ◌<◌, ◌≤◌, ◌+◌, ℕ, List, length, slice_index, take}
use Rattle.std.specs.Int.{bit_at}
use Rattle.csv_rows.specs.Places.{place_after}
use Rattle.csv_rows.specs.declared.place.Place.{Place}

-- none of the bytes from a place up to another is a quote
abbrev pub NoQuoteIn : List ℕ → ℕ → ℕ → Type 0
NoQuoteIn text from to = (j : ℕ) → from ≤ j → j < to → slice_index text j ≢ 34

-- a scan of a text from some place has gone through these many bytes of it
pub record HasScanned (start : Place) (text : List ℕ) (from : ℕ) (p : Place) : Type 0 where
  pub within : from ≤ length text
  pub place : p ≡ place_after start (take from text)

-- of the 64 bytes from a place on, the quotes that the scan has not gone through are the bits of a mask, and before these bytes there is none
pub record Marked (text : List ℕ) (at from mask : ℕ) : Type 0 where
  pub each : (k : ℕ) → k < 64 → from ≤ at + k → slice_index text (at + k) ≡ 34 → bit_at mask k ≡ 1
  pub only : (k : ℕ) → bit_at mask k ≡ 1 → (k < 64) × (from ≤ at + k) × (slice_index text (at + k) ≡ 34)
  pub before : NoQuoteIn text from at
  pub low : from ≤ at + 64
