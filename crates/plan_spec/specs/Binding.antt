-- The place of the first name of a plan that a header lacks.
use Rattle.std.specs.Prelude.{ℕ, List, Option, is_none}
use Rattle.std.specs.List.{position_from}
use Rattle.par_model.specs.Named.{NamedPlan, column_of, names_of}

-- the place of the first missing name among some names, counted from 0
abbrev pub missing_from : List (List ℕ) → List (List ℕ) → Option ℕ
missing_from header names = position_from (λ name. is_none (column_of header name)) 0 names

-- the place of the first missing name among the names of a plan
abbrev pub missing_place : List (List ℕ) → NamedPlan → Option ℕ
missing_place header plan = missing_from header (names_of plan)
