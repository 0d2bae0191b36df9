-- What the rows of a table come to under a plan: their groups and the text of these, or the first row that is refused.
use Rattle.std.specs.Prelude.{◌≡◌, ◌∷◌, ℕ, List, drop, ⊤}
use Rattle.par_model.specs.Plan.{Plan}
use Rattle.par_model.specs.declared.refusal.Refusal.{Refusal}
use Rattle.partial_agg.specs.Groups.{AreGroups, GroupsByKey}
use Rattle.partial_agg.specs.Listed.{listed}
use Rattle.partial_agg.specs.declared.groups.Group.{Group}
use Rattle.partial_agg.specs.declared.map.BlockAnswer.{BlockAnswer}
use Rattle.partial_agg.specs.declared.map.BlockAnswer.TheVariants as answer
use Rattle.par_model.specs.Outcome.{IsAnswer}
use Rattle.result_text.specs.Text.{IsTextOf}
use Rattle.table_query.specs.Refused.{refused_in}
use Rattle.table_query.specs.declared.input.Ready.{Ready}

-- a list has the groups of the rows of a table, in the order of their keys
abbrev pub ListsGroups : Plan → List (List (List ℕ)) → List Group → Type 0
ListsGroups plan records groups = (m : GroupsByKey) × AreGroups plan (drop 1 records) m × (groups ≡ listed m)

-- an answer that names a row names the first that is refused; a lack of memory says nothing
abbrev pub NamesRefused : Plan → List (List (List ℕ)) → BlockAnswer → Type 0
NamesRefused plan records (answer.Row row cause item) = (rest : List (ℕ × Refusal)) × (refused_in plan records ≡ (row, record { cause = cause; item = item }) ∷ rest)
NamesRefused plan records answer.Memory = ⊤

-- a text is that of groups, and answers the query over its records
pub record IsGroupsText (r : Ready) (groups : List Group) (text : List ℕ) : Type 0 where
  pub of_groups : IsTextOf r.plan.plan r.bound groups text
  pub answers : IsAnswer r.plan.plan r.rows text
