-- Rows that are not refused.
use Rattle.std.specs.Prelude.{Bool, ℕ, List, is_none}
use Rattle.std.specs.List.{filter, list_all}
use Rattle.csv_rows.specs.Readings.{records_as}
use Rattle.csv_rows.specs.declared.cleaning.Reading.{Reading}
use Rattle.par_model.specs.Plan.{Plan}
use Rattle.par_model.specs.Refuse.{refusal}
use Rattle.row_blocks.specs.Blocks.{Table}

-- whether a row is not refused, under a header of this width
abbrev pub is_good : Plan → ℕ → List (List ℕ) → Bool
is_good plan width row = is_none (refusal plan width row)

-- the rows that are not refused
abbrev pub good_rows : Plan → ℕ → Table → Table
good_rows plan width rows = filter (is_good plan width) rows

-- whether no record of some bytes is refused
abbrev pub has_good : Reading → Plan → ℕ → List ℕ → Bool
has_good reading plan width bytes = list_all (is_good plan width) (records_as reading bytes)
