-- What a scan for quotes knows of the ends of lines of a text.
use Rattle.std.specs.Prelude.{◌≡◌, ◌≢◌, ◌<◌, ◌⊎◌, ℕ, List, Option, None, IfSome, false, length, slice_index, take, true}
use Rattle.csv_rows.specs.Places.{place_after}
use Rattle.csv_rows.specs.declared.place.Place.TheVariants as place
use Rattle.row_windows.specs.Seams.{is_line_end}

-- a line ends here, behind the first byte and outside quotes
pub record IsOpenEnd (text : List ℕ) (at : ℕ) : Type 0 where
  pub low : 0 < at
  pub within : at < length text
  pub line : is_line_end (slice_index text at) ≡ true
  pub outside : place_after place.Opens (take at text) ≢ place.Quoted

-- each end of a line behind the first byte and below a place stands between quotes
abbrev pub NoneBelow : List ℕ → ℕ → Type 0
NoneBelow text n = (at : ℕ) → 0 < at → at < n → is_line_end (slice_index text at) ≡ true → place_after place.Opens (take at text) ≡ place.Quoted

-- a line ends at this place, or at none below a place
pub record IsLastBelow (text : List ℕ) (n : ℕ) (last : Option ℕ) : Type 0 where
  pub some : IfSome last (IsOpenEnd text)
  pub none : last ≡ None → NoneBelow text n

-- each byte below a place ends a line
abbrev pub AllEnd : List ℕ → ℕ → Type 0
AllEnd text n = (at : ℕ) → at < n → is_line_end (slice_index text at) ≡ true

-- some byte below a place ends none
pub record IsBegun (text : List ℕ) (n : ℕ) : Type 0 where
  pub at : ℕ
  pub below : at < n
  pub other : is_line_end (slice_index text at) ≡ false

-- each end of a line below a place stands between quotes, or behind nothing but ends of lines
abbrev pub NoneBehind : List ℕ → ℕ → Type 0
NoneBehind text n = (at : ℕ) → at < n → is_line_end (slice_index text at) ≡ true → (place_after place.Opens (take at text) ≡ place.Quoted) ⊎ AllEnd text at

-- the first end of a line that stands outside quotes and behind a byte that ends none
pub record IsFirstEnd (text : List ℕ) (at : ℕ) : Type 0 where
  pub end : IsOpenEnd text at
  pub begun : IsBegun text at
  pub first : NoneBehind text at
