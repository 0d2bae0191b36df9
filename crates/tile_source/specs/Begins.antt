-- Where a tile begins, and what it is.
use Rattle.std.specs.Prelude.{◌≡◌, ◌≤◌, ◌<◌, ◌+◌, ◌-◌, ◌^◌, ◌⊎◌, ◌++◌, min, [], ◌∷◌, ℕ, List, Option, Some, length, false, slice_index}
use Rattle.csv_rows.specs.Cuts.{IsCut}
use Rattle.csv_rows.specs.Records.{records_of}
use Rattle.row_windows.specs.Seams.{BeginsLine, IsSeam, is_line_end}
use Rattle.tile_source.specs.Left.{lack}
use Rattle.tile_source.specs.declared.open.Begin.{Begin}
use Rattle.tile_source.specs.declared.open.Span.{Span}

-- the end of the line of a header
abbrev pub IsLineEnd : List ℕ → Type 0
IsLineEnd bytes = (bytes ≡ 10 ∷ []) ⊎ (bytes ≡ 13 ∷ 10 ∷ [])

-- What a source brings for a tile: the text of the header, the end of its line, bytes that were passed over, and the bytes from where the
-- tile begins
pub record Brought : Type 0 where
  pub header : List ℕ
  pub line_end : List ℕ
  pub passed : List ℕ
  pub tail : List ℕ

-- the file from its front on, which begins with the header
pub record IsFromFront (b : Begin) (s : Brought) : Type 0 where
  pub no_line : s.line_end ≡ []
  pub no_passed : s.passed ≡ []
  pub at : b.at ≡ length s.header
  pub whole : (s.tail ≡ []) ⊎ IsCut s.header

-- the last byte ends no line. Of a text, only one front that can be cut off, and has one record, ends so
pub record EndsInRecord (bytes : List ℕ) : Type 0 where
  pub some : 0 < length bytes
  pub last : is_line_end (slice_index bytes (length bytes - 1)) ≡ false

-- a line that is the header, and then the file from a place on, up to the end of a line or to its end
pub record IsFromPlace (from : ℕ) (b : Begin) (s : Brought) : Type 0 where
  pub line : IsLineEnd s.line_end
  pub at : b.at ≡ min (from + length s.passed) (2 ^ 64 - 1)
  pub one : length (records_of s.header) ≡ 1
  pub whole : IsCut s.header
  pub last : EndsInRecord s.header

-- a source brings this for a tile that begins here
pub record Brings (span : Span) (bytes : List ℕ) (b : Begin) (s : Brought) : Type 0 where
  pub are : bytes ≡ s.header ++ (s.line_end ++ (s.passed ++ s.tail))
  pub front : ((span.from ≡ 0) × IsFromFront b s) ⊎ ((0 < span.from) × IsFromPlace span.from b s)
  pub header : b.header ≡ length s.header
  pub one : (length (records_of s.header) ≡ 1) ⊎ (s.tail ≡ [])
  pub begins : (s.tail ≡ []) ⊎ BeginsLine s.tail

-- a tile from a place on: its bytes, and those behind it
pub record IsTile (span : Span) (at : ℕ) (tail body rest : List ℕ) : Type 0 where
  pub are : tail ++ lack span.size at tail ≡ body ++ rest
  pub end : (rest ≡ []) ⊎ (IsSeam body rest × (span.to ≤ at + length body))

-- a tile of the bytes that a source brings, and that is left of it
pub record Begins (span : Span) (bytes : List ℕ) (b : Begin) (left : Option (List ℕ)) : Type 0 where
  pub brought : Brought
  pub brings : Brings span bytes b brought
  pub body : List ℕ
  pub rest : List ℕ
  pub is_tile : IsTile span b.at brought.tail body rest
  pub left_is : left ≡ Some (brought.header ++ body)
