-- Where a record of a text begins.
use Rattle.std.specs.Prelude.{◌≡◌, ◌<◌, ◌≤◌, ℕ, List, false, length, slice_index, take, true}
use Rattle.csv_rows.specs.Cuts.{IsCut}
use Rattle.csv_rows.specs.Records.{records_of}
use Rattle.row_windows.specs.Seams.{is_line_end}

-- each byte from one place to another ends a line
abbrev pub AllEndFrom : List ℕ → ℕ → ℕ → Type 0
AllEndFrom text from to = (at : ℕ) → from ≤ at → at < to → is_line_end (slice_index text at) ≡ true

-- this many records end at this place of a text, outside quotes, and it is the end of a line or of the text
pub record EndsBefore (text : List ℕ) (before end : ℕ) : Type 0 where
  pub within : end < length text
  pub whole : IsCut (take end text)
  pub number : length (records_of (take end text)) ≡ before
  pub line : is_line_end (slice_index text end) ≡ true

-- A record begins at this place of a text, after this many others: they end at an earlier place, and between
-- the two there is nothing but ends of lines
pub record BeginsAt (text : List ℕ) (before at : ℕ) : Type 0 where
  pub end : ℕ
  pub ends : EndsBefore text before end
  pub low : end ≤ at
  pub within : at < length text
  pub between : AllEndFrom text end at
  pub other : is_line_end (slice_index text at) ≡ false
