-- Why there is no tile of the bytes that a source brings.
use Rattle.std.specs.Prelude.{◌≡◌, ◌<◌, ◌≤◌, ◌+◌, ◌++◌, ◌⊎◌, ⊤, ℕ, List, drop, length, take}
use Rattle.csv_rows.specs.Cuts.{IsCut}
use Rattle.csv_rows.specs.Records.{records_of}
use Rattle.row_windows.specs.declared.window.TheConstants.{MOST_RECORD_BYTES}
use Rattle.tile_source.specs.Begins.{EndsInRecord, IsLineEnd}
use Rattle.tile_source.specs.Header.{EndsHere}
use Rattle.tile_source.specs.declared.header.NoTile.{NoTile}
use Rattle.tile_source.specs.declared.header.NoTile.TheVariants as no
use Rattle.tile_source.specs.declared.open.Span.{Span}

-- the first record of some bytes ends here, where they can be cut; or they have one record at most, and this is their end
abbrev pub HeaderEnds : List ℕ → ℕ → Type 0
HeaderEnds bytes end = EndsHere bytes end ⊎ ((end ≡ length bytes) × (length (records_of bytes) ≤ 1))

-- the end of a line that a header may have
pub record HasLineEnd (bytes : List ℕ) : Type 0 where
  pub line_end : List ℕ
  pub rest : List ℕ
  pub is : bytes ≡ line_end ++ rest
  pub line : IsLineEnd line_end

-- bytes do not begin with one; if there are two of them, nor do these with others after them
pub record NoLineEnd (bytes : List ℕ) : Type 0 where
  pub near : HasLineEnd bytes → ⊥
  pub far : 2 ≤ length bytes → (more : List ℕ) → HasLineEnd (bytes ++ more) → ⊥

-- bytes do not begin with a line that is a header: where their header ends no such end of a line comes
pub record HasNoLine (bytes : List ℕ) : Type 0 where
  pub end : ℕ
  pub ends : HeaderEnds bytes end
  pub no_line : EndsInRecord (take end bytes) → HasLineEnd (drop end bytes) → ⊥

-- more bytes than a record may have come before the end of the header
pub record HasLongHeader (bytes : List ℕ) : Type 0 where
  pub front : List ℕ
  pub rest : List ℕ
  pub are : bytes ≡ front ++ rest
  pub long : MOST_RECORD_BYTES < length front
  pub one : length (records_of front) ≤ 1

-- bytes are the line of a header and then some others, which end before the size of the file
pub record EndsEarly (span : Span) (bytes : List ℕ) : Type 0 where
  pub header : List ℕ
  pub line_end : List ℕ
  pub passed : List ℕ
  pub are : bytes ≡ header ++ (line_end ++ passed)
  pub one : length (records_of header) ≡ 1
  pub whole : IsCut header
  pub line : IsLineEnd line_end
  pub early : span.from + length passed < span.size

-- why no header was read; want of memory and a fault of the source have no cause in the bytes
abbrev pub IsNoHeader : List ℕ → NoTile → Type 0
IsNoHeader bytes no.ReadFault = ⊤
IsNoHeader bytes no.NoHeader = ⊥
IsNoHeader bytes no.LongHeader = HasLongHeader bytes
IsNoHeader bytes no.Short = ⊥
IsNoHeader bytes no.Memory = ⊤

-- why there is no tile; want of memory and a fault of the source have no cause in the bytes
abbrev pub IsNoTile : Span → List ℕ → NoTile → Type 0
IsNoTile span bytes no.ReadFault = ⊤
IsNoTile span bytes no.NoHeader = (0 < span.from) × HasNoLine bytes
IsNoTile span bytes no.LongHeader = HasLongHeader bytes
IsNoTile span bytes no.Short = (0 < span.from) × EndsEarly span bytes
IsNoTile span bytes no.Memory = ⊤
