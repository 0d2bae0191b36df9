-- How the bytes of a source are read.
use Rattle.std.specs.Prelude.{ℕ, List, map}
use Rattle.csv_rows.specs.Readings.{exchanged, records_as, records_in}
use Rattle.csv_rows.specs.declared.cleaning.Reading.{Reading}
use Rattle.row_blocks.specs.Blocks.{Table}

-- a way to read: the text that bytes are, with a comma between two fields, and the records that they have
pub record Way : Type 0 where
  pub text : List ℕ → List ℕ
  pub records : List ℕ → Table

-- the bytes of an input: the comma and the separator are exchanged in the text
abbrev pub of_bytes : Reading → Way
of_bytes reading = record { text = map (exchanged reading.separator); records = records_in reading }

-- bytes in which the two were exchanged as they were read
abbrev pub of_text : Reading → Way
of_text reading = record { text = λ bytes. bytes; records = records_as reading }
