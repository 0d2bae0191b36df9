-- The plan that words name, if they do, and the text of its table.
use Rattle.std.specs.Prelude.{◌≡◌, ◌⊎◌, [], ℕ, List, Option, None, Some, codes, slice_index_or}
use Rattle.csv_rows.specs.Records.{records_of}
use Rattle.par_model.specs.Named.{NamedPlan}
use Rattle.par_model.specs.Outcome.{IsAnswer, Table}
use Rattle.plan_spec.specs.Query.{query_of}
use Rattle.table_query.specs.Answers.{outcome_over}
use Rattle.table_query.specs.Asked.{plan_in, workers_in}

-- the plan of the words, if they are one
abbrev pub plan_of : List (List ℕ) → Option NamedPlan
plan_of words = plan_in (query_of words)

-- how many workers the words ask for, if they are a plan
abbrev pub workers_of : List (List ℕ) → Option ℕ
workers_of words = workers_in (query_of words)

-- a text is that of the table of the records of bytes
abbrev pub IsTextOver : Option NamedPlan → List ℕ → List ℕ → Type 0
IsTextOver None bytes text = ⊥
IsTextOver (Some plan) bytes text = IsAnswer plan (records_of bytes) text

-- the outcome over bytes is a table, and this is its text
pub record IsTableText (plan : Option NamedPlan) (bytes text : List ℕ) : Type 0 where
  pub has_table : outcome_over plan bytes ≡ Table
  pub is_text : IsTextOver plan bytes text

-- words that begin with the name of another form of the command line
abbrev pub IsOtherForm : List (List ℕ) → Type 0
IsOtherForm words = (slice_index_or words 0 [] ≡ codes "merge") ⊎ ((slice_index_or words 0 [] ≡ codes "join") ⊎ (slice_index_or words 0 [] ≡ codes "gen"))
