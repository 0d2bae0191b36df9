-- The text of a table.
use Rattle.std.specs.Prelude.{◌≡◌, ◌≤◌, ◌^◌, ◌∷◌, ℕ, List, None, Option, Some, length}
use Rattle.std.specs.Global.{Vec}
use Rattle.csv_rows.specs.Records.{record_at}
use Rattle.par_model.specs.Named.{NamedPlan, bound_plan}
use Rattle.par_model.specs.Outcome.{IsAnswer, Table}
use Rattle.par_model.specs.Plan.{Plan}
use Rattle.plan_spec.specs.Query.{Query}
use Rattle.result_text.specs.Pieces.{joined}
use Rattle.row_blocks.specs.Blocks.{Table as Records}
use Rattle.stream_groups.specs.Gathering.{HasGathered}
use Rattle.stream_groups.specs.Outcome.{outcome_over}
use Rattle.stream_groups.specs.Twice.{twice_of}
use Rattle.stream_groups.specs.Ways.{Way, of_bytes}
use Rattle.stream_groups.specs.declared.gathered.Gathered.{Gathered}

-- the outcome of a query over bytes that are read so is a table, the header has no column of it twice, and this is the text of
-- that table
pub record IsTextOver (way : Way) (query : Query) (bytes text : List ℕ) : Type 0 where
  pub has_table : outcome_over way query.plan bytes ≡ Table
  pub once : twice_of (bound_plan (record_at (way.records bytes) 0) query.plan) (record_at (way.records bytes) 0) ≡ None
  pub is_text : IsAnswer query.plan (way.records bytes) text

-- a query is asked for, and this is its text over bytes whose records are those that its reading gives
pub record IsTableText (asked : Option Query) (bytes text : List ℕ) : Type 0 where
  pub query : Query
  pub is : asked ≡ Some query
  pub over : IsTextOver (of_bytes query.reading) query bytes text

-- the text of these pieces answers a plan, whatever the rows are that were gathered
abbrev pub AnswersGathered : NamedPlan → Plan → Gathered → List (Vec ℕ) → Type 0
AnswersGathered plan bound g pieces = (header : List (List ℕ)) (width : ℕ) (rows : Records) → bound ≡ bound_plan header plan → length rows ≤ 2 ^ 50 → HasGathered bound width rows g
    → IsAnswer plan (header ∷ rows) (joined pieces)
