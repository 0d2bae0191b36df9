-- A stretch of the text of a source.
use Rattle.std.specs.Prelude.{◌≡◌, ◌≤◌, ◌+◌, ◌-◌, ◌++◌, [], ℕ, List, Option, drop, length, take}
use Rattle.std.specs.Io.KnownBytes.{Consumes}
use Rattle.csv_rows.specs.declared.cleaning.Reading.{Reading}
use Rattle.row_windows.specs.Seams.{IsLong}
use Rattle.row_windows.specs.declared.window.TheConstants.{MOST_RECORD_BYTES}

-- the line of the header, whole lines, and what was read behind them, with how the fields of the lines are read
pub record Stretch : Type 0 where
  pub reading : Reading
  pub header : List ℕ
  pub lines : List ℕ
  pub rest : List ℕ

-- the bytes from one place of a text to another
abbrev pub between : ℕ → ℕ → List ℕ → List ℕ
between from to text = take (to - from) (drop from text)

-- a text that is cut at these places
abbrev pub stretch_of : Reading → List ℕ → ℕ → ℕ → ℕ → Stretch
stretch_of reading text header end filled = record { reading = reading; header = take header text; lines = between header end text; rest = between end filled text }

-- the places rise and stand within the text; behind the header there are at most a record and a byte
pub record IsWindow (text : List ℕ) (header end filled : ℕ) : Type 0 where
  pub low : header ≤ end
  pub high : end ≤ filled
  pub within : filled ≤ length text
  pub most : filled ≤ header + (MOST_RECORD_BYTES + 1)

-- a text is what was there, and what was then read of a source
abbrev pub Fills : Option (List ℕ) → Option (List ℕ) → List ℕ → List ℕ → Type 0
Fills old new rest text = (more : List ℕ) × Consumes old new more × (text ≡ rest ++ more)

-- What there was of a window without lines, and what was read, is too long to be read on: it is the window's rest
pub record IsLongWindow (old new : Option (List ℕ)) (was now : Stretch) : Type 0 where
  pub reading : now.reading ≡ was.reading
  pub header : now.header ≡ was.header
  pub lines : now.lines ≡ []
  pub reads : Fills old new was.rest now.rest
  pub long : IsLong now.rest

-- What was read of a source before a read failed: with what there was, at most as many bytes as were to be read
abbrev pub LosesRead : Option (List ℕ) → Option (List ℕ) → ℕ → ℕ → Type 0
LosesRead old new had most = (more : List ℕ) × Consumes old new more × (had + length more ≤ most)

-- What there was of a window, and what was read before a read failed, is lost: at most a record and a byte
pub record IsLostWindow (old new : Option (List ℕ)) (was : Stretch) : Type 0 where
  pub text : List ℕ
  pub reads : Fills old new was.rest text
  pub few : length text ≤ MOST_RECORD_BYTES + 1
