-- A query that leaves out rows that are refused.
use Rattle.std.specs.Prelude.{◌≡◌, ◌≢◌, ◌≤◌, ◌⊎◌, ℕ, List, None, Option, Some, length}
use Rattle.csv_rows.specs.Readings.{records_in}
use Rattle.par_stream.specs.Answers.{IsTextOver}
use Rattle.plan_spec.specs.Query.{Query}
use Rattle.stream_groups.specs.Stops.{Tells}
use Rattle.stream_groups.specs.Ways.{of_bytes}
use Rattle.stream_groups.specs.declared.stop.Stop.{Stop}
use Rattle.stream_groups.specs.declared.stop.Stop.TheVariants as stop
use Rattle.good_groups.specs.Good.{HasNoTable, IsLeftOut, good_way, refused_records}
use Rattle.good_groups.specs.declared.reading.LeftOut.{LeftOut}

-- a query is asked for, at most this many rows of the bytes are refused, and a text is that of the table of the others
pub record IsGoodText (most : ℕ) (asked : Option Query) (bytes text : List ℕ) : Type 0 where
  pub query : Query
  pub is : asked ≡ Some query
  pub few : length (refused_records query (records_in query.reading bytes)) ≤ most
  pub over : IsTextOver (good_way (of_bytes query.reading) query) query bytes text

-- a query is asked for, and these rows were left out, if a source tells what it had left
pub record LeavesOut (most : ℕ) (asked : Option Query) (left : Option (List ℕ)) (rows : Option LeftOut) : Type 0 where
  pub query : Query
  pub is : asked ≡ Some query
  pub out : IsLeftOut (of_bytes query.reading) query most left rows

-- a query is asked for, and bytes have no table of the rows that it does not refuse, if this many rows may be left out
pub record HasNoGoodText (most : ℕ) (asked : Option Query) (bytes : List ℕ) : Type 0 where
  pub query : Query
  pub is : asked ≡ Some query
  pub none : HasNoTable (of_bytes query.reading) query most bytes

-- what a reason says of what words ask for: nothing is asked, or a write failed, or it says what it does if no row is left out
abbrev pub TellsOfGood : Option Query → Option (List ℕ) → Stop → Type 0
TellsOfGood None left why = (why ≡ stop.Usage) ⊎ (why ≡ stop.Memory)
TellsOfGood (Some query) left why = (why ≢ stop.WriteFault) → Tells (of_bytes query.reading) query left why
