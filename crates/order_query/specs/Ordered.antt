-- The rows of bytes in order, and how they were put in order.
use Rattle.std.specs.Prelude.{◌≡◌, ℕ, List, Option, None, Some}
use Rattle.csv_rows.specs.Records.{records_of}
use Rattle.gather_merge.specs.Order.{IsOrder, ordered}
use Rattle.gather_merge.specs.Used.{IsUsed}
use Rattle.gather_merge.specs.declared.Merged.{Merged}
use Rattle.par_model.specs.Named.{NamedPlan}
use Rattle.par_model.specs.Outcome.{Table}
use Rattle.par_model.specs.Table.{table_text}
use Rattle.plan_spec.specs.Merging.{merge_of}
use Rattle.plan_spec.specs.Query.{Query}
use Rattle.table_query.specs.Answers.{bound_over, outcome_over}
use Rattle.table_query.specs.Asked.{plan_in, workers_in}

-- the plan of words that ask for rows in order, if they do
abbrev pub merge_plan_of : List (List ℕ) → Option NamedPlan
merge_plan_of words = plan_in (merge_of words)

-- how many workers they ask for
abbrev pub merge_workers_of : List (List ℕ) → Option ℕ
merge_workers_of words = workers_in (merge_of words)

-- a text is that of the records of bytes, the header and then the rows in this order
pub record IsInOrder (plan : NamedPlan) (bytes order text : List ℕ) : Type 0 where
  pub sorted : IsOrder (bound_over plan bytes) (records_of bytes) order
  pub is : text ≡ table_text (ordered (records_of bytes) order)

-- a text is that of the rows in the order of the plan's columns
abbrev pub IsOrderOver : Option NamedPlan → List ℕ → List ℕ → Type 0
IsOrderOver None bytes text = ⊥
IsOrderOver (Some plan) bytes text = (order : List ℕ) × IsInOrder plan bytes order text

-- the outcome over bytes is a table, and this is the text of the rows in order
pub record IsOrderText (plan : Option NamedPlan) (bytes text : List ℕ) : Type 0 where
  pub has_table : outcome_over plan bytes ≡ Table
  pub is_text : IsOrderOver plan bytes text

-- A query's participants put the rows of a text in order: as many workers as it asks for shared their blocks with the
-- leader, and the text has the order that was merged
pub record IsMergedFor (query : Query) (bytes text : List ℕ) (m : Merged) : Type 0 where
  pub used : IsUsed (bound_over query.plan bytes) (records_of bytes) query.workers m.finished
  pub in_order : IsInOrder query.plan bytes m.order text

-- words are a query, and its participants put the rows of the text in order
abbrev pub IsMergedBy : Option Query → List ℕ → List ℕ → Merged → Type 0
IsMergedBy None bytes text m = ⊥
IsMergedBy (Some query) bytes text m = IsMergedFor query bytes text m
