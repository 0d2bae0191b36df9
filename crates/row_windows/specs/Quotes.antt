-- What a scan that goes from quote to quote knows of a text.
use Rattle.std.specs.Prelude.{◌≡◌, ◌≢◌, ◌≤◌, ◌<◌, ℕ, List, length, slice_index, take}
use Rattle.csv_rows.specs.Places.{place_after}
use Rattle.csv_rows.specs.declared.place.Place.TheVariants as place
use Rattle.row_windows.specs.declared.quotes.Scan.{Scan}

-- none of the bytes from one place on and before another is a quote
abbrev pub NoQuoteIn : List ℕ → ℕ → ℕ → Type 0
NoQuoteIn text from to = (k : ℕ) → from ≤ k → k < to → slice_index text k ≢ 34

-- a scan is within the text, and its place is that after the bytes before it
pub record IsScanned (text : List ℕ) (scan : Scan) : Type 0 where
  pub within : scan.at ≤ length text
  pub here : scan.place ≡ place_after place.Opens (take scan.at text)
