-- Where the bytes of a table can be cut, and lines that are too long to be read.
use Rattle.std.specs.Prelude.{◌≡◌, ◌<◌, ◌==◌, ◌||◌, ◌++◌, Bool, true, ℕ, List, drop, length, slice_index, take}
use Rattle.csv.specs.Reading.{strip_bom}
use Rattle.csv.specs.declared.parser.State.TheVariants as st
use Rattle.csv_rows.specs.Cuts.{IsCut, state_after}
use Rattle.csv_rows.specs.Records.{records_of}
use Rattle.row_windows.specs.declared.window.TheConstants.{MOST_RECORD_BYTES}

-- whether a byte ends a line: a line feed or a carriage return
abbrev pub is_line_end : ℕ → Bool
is_line_end c = (c == 10) || (c == 13)

-- a text begins with the end of a line
pub record BeginsLine (text : List ℕ) : Type 0 where
  pub some : 0 < length text
  pub is : is_line_end (slice_index text 0) ≡ true

-- a text may be cut between these two: the front does not end between quotes, and the back begins with the end of a line
pub record IsSeam (front back : List ℕ) : Type 0 where
  pub whole : IsCut front
  pub line : BeginsLine back

-- a text can be cut at this place, which is not its start
pub record IsCutAt (text : List ℕ) (at : ℕ) : Type 0 where
  pub low : 0 < at
  pub within : at < length text
  pub seam : IsSeam (take at text) (drop at text)

-- each end of a line after the first byte of a text is between quotes
abbrev pub NoCut : List ℕ → Type 0
NoCut text = (at : ℕ) → 0 < at → at < length text → is_line_end (slice_index text at) ≡ true → state_after st.StartRecord (take at text) ≡ st.InQuoted

-- a text begins with a record of more bytes than a record may have
pub record IsLong (text : List ℕ) : Type 0 where
  pub long : MOST_RECORD_BYTES < length text
  pub no_cut : NoCut (strip_bom text)

-- the law: the records of a text that is cut at a seam are those of the two parts
abbrev pub RecordsAddUp : Type 0
RecordsAddUp = (front back : List ℕ) → IsSeam front back → records_of (front ++ back) ≡ records_of front ++ records_of back
