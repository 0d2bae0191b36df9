-- A table without a header behind one that has the numbers of its columns.
use Rattle.std.specs.Prelude.{◌+◌, ◌++◌, ◌==◌, ℕ, List, [], ◌∷◌, decimal, if◌then◌else◌, length, map, take}
use Rattle.std.specs.Char.{is_ascii_digit}
use Rattle.std.specs.List.{join_by, range_with_len}
use Rattle.csv.specs.Reading.{strip_bom}
use Rattle.csv_rows.specs.Readings.{exchanged}
use Rattle.csv_rows.specs.Records.{record_at, records_of}
use Rattle.numbered_rows.specs.declared.front.TheConstants.{FRONT}

-- how many fields the first record of some bytes has, with this byte between two: none if they have no record
abbrev pub width_of : ℕ → List ℕ → ℕ
width_of separator bytes = length (record_at (records_of (map (exchanged separator) bytes)) 0)

-- what comes before the piece at a place: a separator, unless it is the first
abbrev pub lead : ℕ → List ℕ → List ℕ
lead at separator = if at == 0 then [] else separator

-- what is before a number and after it: a quote if the byte between two fields is a digit, and so may be in the number
abbrev pub mark_text : ℕ → List ℕ
mark_text separator = if is_ascii_digit separator then 34 ∷ [] else []

-- a number as a field
abbrev pub number_text : ℕ → ℕ → List ℕ
number_text separator number = mark_text separator ++ (decimal number ++ mark_text separator)

-- the numbers of this many columns, from 1 on
abbrev pub numbers_text : ℕ → ℕ → List ℕ
numbers_text separator width = join_by (λ at. number_text separator (at + 1)) (separator ∷ []) (range_with_len 0 width)

-- the header of this many columns, which a carriage return ends; there is none if there are no columns
abbrev pub header_text : ℕ → ℕ → List ℕ
header_text separator width = if width == 0 then [] else numbers_text separator width ++ 13 ∷ []

-- a header of this many columns, and the bytes of a table after a byte order mark
abbrev pub headed : ℕ → ℕ → List ℕ → List ℕ
headed separator width bytes = header_text separator width ++ strip_bom bytes

-- a table with a header of as many columns as its first record has fields, if it ends in the first FRONT bytes, and otherwise of
-- as many as it has fields there
unfoldable pub numbered : ℕ → List ℕ → List ℕ
numbered separator bytes = headed separator (width_of separator (take FRONT bytes)) bytes
