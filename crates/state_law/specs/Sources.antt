-- The sources of a query, and the rows of some bytes of one of them.
use Rattle.std.specs.Prelude.{◌≡◌, ◌≤◌, ◌⊎◌, ◌∷◌, ℕ, zero, suc, List, [], drop, get_or, length, map}
use Rattle.std.specs.List.{flat_map}
use Rattle.csv_rows.specs.Cuts.{IsCut}
use Rattle.csv_rows.specs.Readings.{exchanged, records_as, records_in}
use Rattle.csv_rows.specs.declared.cleaning.Reading.{Reading}
use Rattle.par_model.specs.Named.{NamedPlan, bound_plan}
use Rattle.par_model.specs.Plan.{Plan}
use Rattle.row_blocks.specs.Blocks.{Table}
use Rattle.row_windows.specs.Seams.{BeginsLine}
use Rattle.row_windows.specs.Stretch.{between}
use Rattle.state_head.specs.declared.cover.Place.{Place}
use Rattle.state_head.specs.declared.cover.Stretch.{Stretch}

-- a query over some sources: its plan by the names of columns, how fields are read, the fields of the header with which each source
-- begins, and the bytes of each source
pub record Work : Type 0 where
  pub names : NamedPlan
  pub reading : Reading
  pub header : List (List ℕ)
  pub texts : List (List ℕ)

-- the plan over the columns of the header
abbrev pub plan_in : Work → Plan
plan_in w = bound_plan w.header w.names

abbrev pub width_in : Work → ℕ
width_in w = length w.header

-- the bytes of a source; one that is not there is empty
abbrev pub text_of : Work → ℕ → List ℕ
text_of w source = get_or w.texts source []

-- its text with a comma between two fields: the comma and the separator are exchanged
abbrev pub comma_text : Work → ℕ → List ℕ
comma_text w source = map (exchanged w.reading.separator) (text_of w source)

-- the bytes at a place of that text
abbrev pub bytes_at : Work → Place → List ℕ
bytes_at w p = between p.from p.to (comma_text w p.source)

-- the records from some byte of a source on, without the header, which is the first one if that is the source's first byte
abbrev pub without_header : ℕ → Table → Table
without_header zero records = drop 1 records
without_header (suc from) records = records

-- the rows at a place
abbrev pub rows_at : Work → Place → Table
rows_at w p = without_header p.from (records_as w.reading (bytes_at w p))

-- those of some stretches, one after another
abbrev pub rows_in : Work → List Stretch → Table
rows_in w stretches = flat_map (λ s. rows_at w s.place) stretches

-- the rows of bytes that are read so and begin with a header
abbrev pub rows_of : Reading → List ℕ → Table
rows_of reading bytes = drop 1 (records_in reading bytes)

-- the rows of all sources, one source after another
abbrev pub all_rows : Work → Table
all_rows w = flat_map (rows_of w.reading) w.texts

-- all records, as those of one table
abbrev pub all_records : Work → Table
all_records w = w.header ∷ all_rows w

-- Bytes of a source that can be read by themselves: they begin with the source or with the end of a line, and end with the source or
-- outside quotes, as a scan from their own start finds. At the start of a source they have the header
pub record IsTile (w : Work) (p : Place) : Type 0 where
  pub size : p.size ≡ length (text_of w p.source)
  pub order : p.from ≤ p.to
  pub within : p.to ≤ p.size
  pub begins : (p.from ≡ 0) ⊎ BeginsLine (bytes_at w p)
  pub ends : (p.to ≡ p.size) ⊎ IsCut (bytes_at w p)
  pub headed : p.from ≡ 0 → records_as w.reading (bytes_at w p) ≡ w.header ∷ rows_at w p

-- all bytes of a source
abbrev pub whole_place : ℕ → List ℕ → Place
whole_place source text = record { source = source; from = 0; to = length text; size = length text }
