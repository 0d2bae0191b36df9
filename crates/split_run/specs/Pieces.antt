-- The pieces of a batch: windows that each begin with the header's line.
use Rattle.std.specs.Prelude.{◌≡◌, ◌++◌, ◌+◌, ◌<◌, ◌^◌, ◌∷◌, ℕ, List, All, drop, length, map}
use Rattle.csv_rows.specs.Readings.{records_as}
use Rattle.par_model.specs.Columns.{HasColumns}
use Rattle.par_model.specs.Plan.{Plan}
use Rattle.partial_agg.specs.Groups.{GroupsByKey}
use Rattle.partial_agg.specs.Rows.{IsAccepted, header_width}
use Rattle.row_blocks.specs.Blocks.{Table}
use Rattle.row_windows.specs.Stretch.{Stretch}
use Rattle.gather_law.specs.Shares.{AreShared, rows_at, together}

-- the records of a piece, of which the first is that of the header
abbrev pub piece_records : Stretch → Table
piece_records piece = records_as piece.reading (piece.header ++ piece.lines)

-- the others
abbrev pub piece_rows : Stretch → Table
piece_rows piece = drop 1 (piece_records piece)

-- the rows of all pieces
abbrev pub rows_of : List Stretch → Table
rows_of pieces = together (map piece_rows pieces)

-- the rows of the pieces of these numbers
abbrev pub drawn_rows : List Stretch → List ℕ → Table
drawn_rows pieces numbers = rows_at (map piece_rows pieces) numbers

-- each piece has the columns of a plan
abbrev pub HaveColumns : Plan → List Stretch → Type 0
HaveColumns plan pieces = All (λ piece. HasColumns plan (header_width (piece_records piece))) pieces

-- the first record of each piece is this one
abbrev pub AreUnder : List (List ℕ) → List Stretch → Type 0
AreUnder header pieces = All (λ piece. piece_records piece ≡ header ∷ piece_rows piece) pieces

-- some rows are accepted, if the header of all pieces is one
abbrev pub AreAccepted : Plan → List Stretch → Table → Type 0
AreAccepted plan pieces rows = (header : List (List ℕ)) → AreUnder header pieces → All (IsAccepted plan (length header)) rows

-- where maps are those of shares of some rows, others are those of shares of these and of the rows of the pieces
abbrev pub SharesPieces : Plan → List Stretch → List GroupsByKey → List GroupsByKey → Type 0
SharesPieces plan pieces olds news = (header : List (List ℕ)) (before : Table) → AreUnder header pieces → AreShared plan (length header) before olds
    → length before + length (rows_of pieces) < 2 ^ 64 → AreShared plan (length header) (before ++ rows_of pieces) news
