-- A table whose groups are shared out by their keys to parts, which follow the order of the columns.
use Rattle.std.specs.Prelude.{◌≡◌, ◌<◌, ◌==◌, ◌++◌, ◌∷◌, ℕ, List, None, if◌then◌else◌, get_or, length}
use Rattle.std.specs.FinMap as map
use Rattle.std.specs.declared.cmp.Ordering.TheVariants.{Less}
use Rattle.std.specs.List.{concat}
use Rattle.csv.specs.Writing.{default_writer, row_text}
use Rattle.par_model.specs.Named.{NamedPlan, bound_plan}
use Rattle.par_model.specs.Outcome.{IsAnswer}
use Rattle.par_model.specs.Plan.{Plan}
use Rattle.par_model.specs.Table.{columns_cmp, table_header}
use Rattle.partial_agg.specs.Groups.{GroupsByKey, group_of}
use Rattle.partial_agg.specs.Listed.{listed}
use Rattle.result_text.specs.KeyColumns.{columns_in}
use Rattle.result_text.specs.Text.{AreLinesOf}

-- a key of a lower part comes before one of a higher part, by this many columns
abbrev pub RisesBy : ℕ → (List ℕ → ℕ) → Type 0
RisesBy count part_of = (a b : List ℕ) → part_of a < part_of b → columns_cmp (columns_in count a) (columns_in count b) ≡ Less

-- a map has the groups of some rows whose keys are of a part, and no other
pub record ArePartGroups (plan : Plan) (rows : List (List (List ℕ))) (part_of : List ℕ → ℕ) (part : ℕ) (groups : GroupsByKey) : Type 0 where
  pub each : (key : List ℕ) → map.get groups key ≡ (if part_of key == part then group_of plan rows key else None)

-- a text has the lines of the groups of a part, and no other lines
pub record IsPartText (plan : Plan) (rows : List (List (List ℕ))) (part_of : List ℕ → ℕ) (part : ℕ) (text : List ℕ) : Type 0 where
  pub groups : GroupsByKey
  pub are : ArePartGroups plan rows part_of part groups
  pub lines : AreLinesOf plan (listed groups) text

-- the header, followed by the texts of all parts in their order, answers a plan that groups by columns
abbrev pub PartsAnswer : Type 0
PartsAnswer = (names : NamedPlan) (plan : Plan) (header : List (List ℕ)) (rows : List (List (List ℕ))) (part_of : List ℕ → ℕ) (texts : List (List ℕ)) → plan ≡ bound_plan header names
    → (length plan.groups ≡ 0 → ⊥) → RisesBy (length plan.groups) part_of → ((key : List ℕ) → part_of key < length texts)
    → ((k : ℕ) (d : List ℕ) → k < length texts → IsPartText plan rows part_of k (get_or texts k d))
    → IsAnswer names (header ∷ rows) (row_text default_writer (table_header names) ++ concat texts)
