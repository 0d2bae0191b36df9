-- The rows of a table that are refused.
use Rattle.std.specs.Prelude.{ℕ, List, drop}
use Rattle.par_model.specs.Plan.{Plan}
use Rattle.par_model.specs.Refuse.{refused_rows}
use Rattle.par_model.specs.declared.refusal.Refusal.{Refusal}
use Rattle.partial_agg.specs.Rows.{header_width}

-- the rows that are refused, each with its number and its cause, in the order of the rows
abbrev pub refused_in : Plan → List (List (List ℕ)) → List (ℕ × Refusal)
refused_in plan records = refused_rows plan (header_width records) (drop 1 records)
