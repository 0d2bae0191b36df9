-- The plan that a head names, over the columns of its header.
use Rattle.std.specs.Prelude.{◌≡◌, ◌≢◌, ◌≤◌, ◌⊎◌, ℕ, List, None, Some, length}
use Rattle.csv_rows.specs.Readings.{records_in}
use Rattle.csv_rows.specs.Records.{record_at}
use Rattle.csv_rows.specs.declared.cleaning.Reading.{Reading}
use Rattle.par_model.specs.Named.{bound_plan, missing_name}
use Rattle.plan_spec.specs.Query.{Query, stream_query_of}
use Rattle.state_head.specs.Head.{Subject}
use Rattle.state_head.specs.Words.{Words}
use Rattle.state_lanes.specs.Lanes.{kinds_of, lanes_of}
use Rattle.state_plan.specs.Words.{HaveNoCommand, IsCommand}
use Rattle.state_plan.specs.declared.file_plan.FilePlan.{FilePlan}
use Rattle.state_plan.specs.declared.file_plan.PlanFault.{PlanFault}
use Rattle.state_plan.specs.declared.file_plan.PlanFault.TheVariants as fault

-- the words of a head are those of this query
pub record AskFor (words : Words) (query : Query) : Type 0 where
  pub command : List (List ℕ)
  pub is_command : IsCommand words command
  pub asks : stream_query_of command ≡ Some query

-- a command line that asks for nothing
pub record AskForNothing (words : Words) : Type 0 where
  pub command : List (List ℕ)
  pub is_command : IsCommand words command
  pub none : stream_query_of command ≡ None

-- why words are those of no query
abbrev pub HaveNoQuery : Words → Type 0
HaveNoQuery words = HaveNoCommand words ⊎ AskForNothing words

-- the fields of a header, each as it is read
abbrev pub header_of : Reading → Subject → List (List ℕ)
header_of reading s = record_at (records_in reading s.header) 0

-- the plan of a head: that of its words, over the columns of its header, which is one record, with the lanes of its aggregates
pub record IsPlanOf (s : Subject) (p : FilePlan) : Type 0 where
  pub ask_for : AskFor s.words p.plan
  pub one : length (records_in p.plan.reading s.header) ≡ 1
  pub bound : p.bound ≡ bound_plan (header_of p.plan.reading s) p.plan.plan
  pub whole : missing_name (header_of p.plan.reading s) p.plan.plan ≡ None
  pub lanes : p.lanes.items ≡ lanes_of p.bound.items
  pub few : length p.lanes.items ≤ 8
  pub kinds : p.kinds.items ≡ kinds_of (lanes_of p.bound.items)

-- why words have no plan
abbrev pub HaveNoPlan : Words → PlanFault → Type 0
HaveNoPlan words fault.Memory = Unit {0}
HaveNoPlan words fault.Words = HaveNoQuery words
HaveNoPlan words fault.Header = ⊥
HaveNoPlan words fault.Column = ⊥

-- why these records are not one
abbrev pub IsNoHeader : List (List (List ℕ)) → PlanFault → Type 0
IsNoHeader records fault.Memory = Unit {0}
IsNoHeader records fault.Words = ⊥
IsNoHeader records fault.Header = length records ≢ 1
IsNoHeader records fault.Column = ⊥

-- a header that is not one record for the query of its words
pub record HasOtherRecords (s : Subject) : Type 0 where
  pub query : Query
  pub ask_for : AskFor s.words query
  pub other : length (records_in query.reading s.header) ≢ 1

-- a header that lacks a name of the plan
pub record LacksName (s : Subject) : Type 0 where
  pub query : Query
  pub ask_for : AskFor s.words query
  pub name : List ℕ
  pub lacks : missing_name (header_of query.reading s) query.plan ≡ Some name

-- why a head has no plan
abbrev pub HasNoPlan : Subject → PlanFault → Type 0
HasNoPlan s fault.Memory = Unit {0}
HasNoPlan s fault.Words = HaveNoQuery s.words
HasNoPlan s fault.Header = HasOtherRecords s
HasNoPlan s fault.Column = LacksName s
