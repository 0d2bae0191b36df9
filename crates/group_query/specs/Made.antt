-- How the groups of a table were made.
use Rattle.std.specs.Prelude.{ℕ, List, Option, None, Some}
use Rattle.csv_rows.specs.Records.{records_of}
use Rattle.gather_run.specs.Used.{IsUsed}
use Rattle.gather_run.specs.declared.Gathered.{Gathered}
use Rattle.plan_spec.specs.Query.{Query}
use Rattle.result_text.specs.Text.{IsTextOf}
use Rattle.table_query.specs.Answers.{bound_over}

-- A query's participants made the groups of a text: as many workers as it asks for shared the blocks of the records
-- with the leader, by way of a shared table of groups if it asks for one, and the text is that of the groups gathered
pub record IsMadeFor (query : Query) (bytes text : List ℕ) (g : Gathered) : Type 0 where
  pub used : IsUsed (bound_over query.plan bytes) (records_of bytes) query.workers query.area_pages g.finished
  pub text_is : IsTextOf query.plan (bound_over query.plan bytes) g.groups text

-- words are a query, and its participants made the groups of the text
abbrev pub IsMadeBy : Option Query → List ℕ → List ℕ → Gathered → Type 0
IsMadeBy None bytes text g = ⊥
IsMadeBy (Some query) bytes text g = IsMadeFor query bytes text g
