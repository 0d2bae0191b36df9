-- Where a record is in the input: the line in which it begins, and a quote in it that is not closed.
use Rattle.std.specs.Prelude.{◌≡◌, ◌≢◌, ◌⊎◌, ◌<◌, ◌≤◌, ◌+◌, ◌++◌, [], ◌∷◌, ℕ, Bool, List, All, None, Option, Some, IfSome, codes, decimal, drop, false, length, map, option_map, slice_index, slice_index_or, string_bytes, take, true}
use Rattle.std.specs.List.{concat}
use Rattle.csv.specs.Reading.{strip_bom}
use Rattle.csv_rows.specs.Cuts.{IsCut}
use Rattle.csv_rows.specs.Places.{place_after}
use Rattle.csv_rows.specs.Readings.{plain, records_as}
use Rattle.csv_rows.specs.Records.{record_at, records_of}
use Rattle.csv_rows.specs.declared.cleaning.Reading.{Reading}
use Rattle.csv_rows.specs.declared.place.Place.TheVariants as scan
use Rattle.par_model.specs.Named.{NamedPlan}
use Rattle.row_windows.specs.Seams.{BeginsLine, is_line_end}
use Rattle.row_windows.specs.Stretch.{Stretch}
use Rattle.split_run.specs.Pieces.{piece_records, piece_rows}
use Rattle.text_lines.specs.Begins.{AllEndFrom, BeginsAt}
use Rattle.text_lines.specs.Feeds.{count_feeds}
use Rattle.text_lines.specs.Quotes.{IsOpenQuote}
use Rattle.stream_groups.specs.Outcome.{HasLong}
use Rattle.stream_groups.specs.Ways.{Way}
use Rattle.stream_groups.specs.declared.place.Place.{Place}

-- ---- among all bytes of a text, in which fields are parted by commas

-- The record of this number begins in this line: up to some place the bytes have the records before it, outside quotes; then
-- come ends of lines, at least one unless it is the first record, and then its first byte. A line ends with a line feed
pub record BeginsIn (bytes : List ℕ) (row at : ℕ) : Type 0 where
  pub front : List ℕ
  pub ends : List ℕ
  pub back : List ℕ
  pub are : bytes ≡ front ++ (ends ++ back)
  pub whole : IsCut front
  pub number : length (records_of front) ≡ row
  pub are_ends : All (λ c. is_line_end c ≡ true) ends
  pub some : 0 < row → 0 < length ends
  pub other : is_line_end (slice_index back 0) ≡ false
  pub line : at ≡ count_feeds front + count_feeds ends + 1

-- ---- a quote that is not closed

-- what is said of it, by its line
abbrev pub quote_text : Option ℕ → List ℕ
quote_text None = []
quote_text (Some line) = codes "; the quote in line " ++ (decimal line ++ codes " is not closed")

-- what is said of a text that begins in this line: it ends between quotes, which are so named by their line, or it does not
pub record SaysQuote (text : List ℕ) (line : ℕ) (said : List ℕ) : Type 0 where
  pub quote : Option ℕ
  pub some : IfSome quote (IsOpenQuote text)
  pub none : quote ≡ None → place_after scan.Opens text ≢ scan.Quoted
  pub says : said ≡ quote_text (option_map (λ at. line + count_feeds (take at text)) quote)

-- A row begins in this line, and this is said of a quote in it: if it is the last record, what its bytes say, and otherwise
-- nothing
pub record PlacesRow (bytes : List ℕ) (row line : ℕ) (said : List ℕ) : Type 0 where
  pub begins : BeginsIn bytes row line
  pub last : length (records_of bytes) ≡ row + 1 → SaysQuote begins.back line said
  pub others : (length (records_of bytes) ≢ row + 1) → said ≡ []

-- A record of bytes that are read so is too long, and begins in this line, and this is said of a quote in it, as far as it
-- was read
pub record PlacesLong (way : Way) (plan : NamedPlan) (bytes : List ℕ) (row at : ℕ) (said : List ℕ) : Type 0 where
  pub has : HasLong way plan bytes row
  pub ends : List ℕ
  pub begun : List ℕ
  pub are : strip_bom (way.text has.begun) ≡ ends ++ begun
  pub are_ends : All (λ c. is_line_end c ≡ true) ends
  pub other : is_line_end (slice_index begun 0) ≡ false
  pub line : at ≡ count_feeds (way.text has.front) + count_feeds ends + 1
  pub says : SaysQuote begun at said

-- ---- in the windows of a batch

-- the lines of some windows
abbrev pub lines_of : List Stretch → List ℕ
lines_of pieces = concat (map (λ w. w.lines) pieces)

-- the line feeds among them
abbrev pub feeds_of : List Stretch → ℕ
feeds_of pieces = count_feeds (lines_of pieces)

-- a window of no bytes
abbrev pub no_stretch : Stretch
no_stretch = record { reading = plain; header = []; lines = []; rest = [] }

-- the window of this number
abbrev pub piece_at : List Stretch → ℕ → Stretch
piece_at pieces at = slice_index_or pieces at no_stretch

-- a text of no bytes, or one that begins with the end of a line
abbrev pub BeginsOrNone : List ℕ → Type 0
BeginsOrNone text = (text ≡ []) ⊎ BeginsLine text

-- a window is read so, its rows are the records of its lines, which begin with the end of a line unless there are none, and
-- the record before them is that of its header
pub record IsLined (reading : Reading) (w : Stretch) : Type 0 where
  pub reading_is : w.reading ≡ reading
  pub begins : BeginsOrNone w.lines
  pub rows : piece_rows w ≡ records_as reading w.lines
  pub one : records_as reading w.header ≡ record_at (piece_records w) 0 ∷ []

-- the lines of each of some windows end outside quotes
abbrev pub AllCut : List Stretch → Type 0
AllCut pieces = All (λ w. IsCut w.lines) pieces

-- the lines of each window that has another one after it do
abbrev pub AreCut : List Stretch → Type 0
AreCut pieces = (k : ℕ) → k + 1 < length pieces → IsCut (piece_at pieces k).lines

-- The place of the record of some lines before which there are this many others; this many line feeds come before the lines. What
-- is said of a quote is said only of the last record
pub record IsPlaceIn (lines : List ℕ) (before : ℕ) (is_last : Bool) (feeds : ℕ) (p : Place) : Type 0 where
  pub at : ℕ
  pub begins : BeginsAt lines before at
  pub line : p.line ≡ feeds + count_feeds (take at lines) + 1
  pub last : is_last ≡ true → SaysQuote (drop at lines) p.line (string_bytes p.quote)
  pub others : is_last ≡ false → string_bytes p.quote ≡ []

-- the place of a record that is too long, of which this text was read, with the ends of lines before it
pub record IsPlaceOfLong (text : List ℕ) (feeds : ℕ) (p : Place) : Type 0 where
  pub at : ℕ
  pub within : at ≤ length (strip_bom text)
  pub ends : AllEndFrom (strip_bom text) 0 at
  pub other : is_line_end (slice_index (strip_bom text) at) ≡ false
  pub line : p.line ≡ feeds + count_feeds (take at (strip_bom text)) + 1
  pub says : SaysQuote (drop at (strip_bom text)) p.line (string_bytes p.quote)
