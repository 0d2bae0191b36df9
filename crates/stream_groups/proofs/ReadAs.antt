-- The records of a text whose fields are read in some way.
use Rattle.std.proofs.Common.{◌≡◌, ◌++◌, ◌∙◌, ℕ, List, [], length, map, ap, sym}
use Rattle.std.proofs.lemmas.List.{map-append}
use Rattle.csv_rows.specs.Readings.{IsSeparator, as_read, exchanged, records_as, records_in}
use Rattle.csv_rows.specs.Records.{records_of}
use Rattle.csv_rows.specs.declared.cleaning.Reading.{Reading}
use Rattle.csv_rows.proofs.Cleaned.{as-length}
use Rattle.csv_rows.proofs.Exchanges.{reads-exchanged, twice-all}
use Rattle.row_windows.specs.Seams.{IsSeam}
use Rattle.row_windows.specs.Stretch.{Stretch}
use Rattle.row_windows.proofs.Seams.{records_add_up}
use Rattle.split_run.specs.Pieces.{piece_rows}
use Rattle.text_lines.proofs.Ends.{no_records}
use Rattle.stream_groups.specs.Begins.{IsLined}

-- a text of no bytes has none
pub none_as : (reading : Reading) → records_as reading [] ≡ []
none_as reading = ap (map (map (as_read reading))) no_records

-- those of a text that is cut at a seam are those of the two parts
pub as_add_up : (reading : Reading) (front back : List ℕ) → IsSeam front back → records_as reading (front ++ back) ≡ records_as reading front ++ records_as reading back
as_add_up reading front back seam = ap (map (map (as_read reading))) (records_add_up front back seam) ∙ map-append (map (as_read reading)) (records_of front) (records_of back)

-- those of a text that is exchanged back are those of the text
pub in_again : (reading : Reading) (text : List ℕ) → IsSeparator reading.separator → records_in reading (map (exchanged reading.separator) text) ≡ records_as reading text
in_again reading text is = sym (reads-exchanged reading (map (exchanged reading.separator) text) is) ∙ ap (records_as reading) (twice-all reading.separator text)

-- a window has as many rows as its lines have records
pub rows_count : (reading : Reading) (w : Stretch) → IsLined reading w → length (piece_rows w) ≡ length (records_of w.lines)
rows_count reading w lined = ap length lined.rows ∙ as-length reading w.lines
