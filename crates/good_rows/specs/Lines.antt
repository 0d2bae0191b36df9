-- The lines of a text, and what is left of it if some are left out.
use Rattle.std.specs.Prelude.{◌≡◌, ◌&&◌, ◌++◌, ◌∷◌, [], Bool, ℕ, List, if◌then◌else◌, length, not, take}
use Rattle.csv_rows.specs.Places.{is_quoted_place, place_after}
use Rattle.csv_rows.specs.Readings.{records_as}
use Rattle.csv_rows.specs.declared.cleaning.Reading.{Reading}
use Rattle.csv_rows.specs.declared.place.Place.{Place}
use Rattle.csv_rows.specs.declared.place.Place.TheVariants as place
use Rattle.par_model.specs.Plan.{Plan}
use Rattle.row_windows.specs.Ends.{NoneBelow}
use Rattle.row_windows.specs.Seams.{BeginsLine, is_line_end}
use Rattle.good_rows.specs.Good.{good_rows, has_good}

-- whether a line ends in front of a byte, which a scan reaches at this place: the byte ends a line, and is not between quotes
abbrev pub ends_here : Place → ℕ → Bool
ends_here p c = is_line_end c && not (is_quoted_place p)

-- what is left of a line, which begins with the end of the line before it: all of it, or that byte
abbrev pub line_left : (List ℕ → Bool) → List ℕ → List ℕ
line_left keeps line = if keeps line then line else take 1 line

-- What is left of some bytes if lines are left out: of a line of which these bytes were read, up to a place of a scan, and of
-- the bytes after them
unfoldable pub left_of : (List ℕ → Bool) → Place → List ℕ → List ℕ → List ℕ
left_of keeps p line [] = line_left keeps line
left_of keeps p line (c ∷ rest) =
    if ends_here p c then line_left keeps line ++ left_of keeps (place_after p (c ∷ [])) (c ∷ []) rest
    else left_of keeps (place_after p (c ∷ [])) (line ++ c ∷ []) rest

-- these bytes are the beginning of one line, after the end of the line before it, and a scan is at this place behind them
pub record IsBegun (line : List ℕ) (p : Place) : Type 0 where
  pub begins : BeginsLine line
  pub one : NoneBelow line (length line)
  pub place : p ≡ place_after place.Opens line

-- the law: of bytes whose lines are left out if they have a refused row, the records are the rows that are not refused
abbrev pub LeavesGoodRows : Type 0
LeavesGoodRows = (reading : Reading) (plan : Plan) (width : ℕ) (line rest : List ℕ) (p : Place) → IsBegun line p
    → records_as reading (left_of (has_good reading plan width) p line rest) ≡ good_rows plan width (records_as reading (line ++ rest))
