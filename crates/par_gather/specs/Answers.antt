-- What it is to answer a query: the status, and what `out` and `err` receive.
use Rattle.std.specs.Prelude.{◌≡◌, ◌==◌, ℕ, List, Option, None, Some, IfSome, codes, if◌then◌else◌, take, ⊤}
use Rattle.std.specs.Io.KnownBytes.{Appends}
use Rattle.gen_query.specs.Summary.{IsSummaryBy}
use Rattle.gen_query.specs.declared.GenAnswer.{GenAnswer}
use Rattle.gen_query.specs.declared.GenAnswer.TheVariants as generating
use Rattle.join_query.specs.Lines.{IsNoFault}
use Rattle.join_query.specs.Lines as joined
use Rattle.join_query.specs.Outcome as join
use Rattle.join_query.specs.Words.{Asked}
use Rattle.order_query.specs.Ordered.{IsOrderText}
use Rattle.par_model.specs.Outcome.{Outcome}
use Rattle.par_model.specs.Table.{table_text}
use Rattle.group_query.specs.Answers.{IsTableText}
use Rattle.answer_text.specs.Lines.{line}
use Rattle.row_blocks.specs.Blocks as blocks
use Rattle.answer_text.specs.declared.status.TheConstants.{MISUSED, REFUSED, TABLE, WRITE_FAULT}
use Rattle.table_query.specs.Answers.{IsOutcome, outcome_over, status_of}
use Rattle.table_query.specs.Asked.{plan_in, usage_in, usage_text, workers_in}
use Rattle.table_query.specs.Lines.{NamesFirst}
use Rattle.table_query.specs.Lines as table
use Rattle.table_query.specs.declared.stop.Stop.{Stop}
use Rattle.table_query.specs.declared.stop.Stop.TheVariants as stop
use Rattle.table_query.specs.declared.wanted.Wanted.TheVariants.{Groups, Order}
use Rattle.par_gather.specs.Query.{Query, OfTable, OfJoin, OfGen, IsMisuse, IsWrong, input_of, usage_of}

-- ---- the status and the text

-- a status is that of the outcome of a query over bytes
abbrev pub IsStatus : Query → List ℕ → ℕ → Type 0
IsStatus (OfTable wanted query) bytes status = status ≡ status_of (outcome_over (plan_in query) bytes)
IsStatus (OfJoin words) bytes status = joined.IsStatus words bytes status
IsStatus (OfGen None) bytes status = status ≡ MISUSED
IsStatus (OfGen (Some asked)) bytes status = status ≡ TABLE

-- the outcome of a join over bytes is a table, and this is its text
abbrev pub IsJoinText : Option Asked → List ℕ → List ℕ → Type 0
IsJoinText words bytes text = (records : blocks.Table) × join.IsOutcome words bytes (join.Joins records) × (text ≡ table_text records)

-- a text is what answers a query over bytes: the table of groups, the rows in order, the joined records, or the line of
-- generated rows
abbrev pub IsText : Query → List ℕ → List ℕ → Type 0
IsText (OfTable Groups query) bytes text = IsTableText (plan_in query) bytes text
IsText (OfTable Order query) bytes text = IsOrderText (plan_in query) bytes text
IsText (OfJoin words) bytes text = IsJoinText words bytes text
IsText (OfGen words) bytes text = IsSummaryBy words text

-- A call answers a query, over what its source had left, by a status and by what its sink was given up to then and now:
-- a status that reports no fault is that of the outcome; wrong words are misuse; on 0 the sink was given the text; and if
-- a write failed a prefix of it
pub record Answers (query : Query) (left : Option (List ℕ)) (status : ℕ) (old new : Option (List ℕ)) : Type 0 where
  pub outcome : IsNoFault status → IfSome (input_of query left) (λ bytes. IsStatus query bytes status)
  pub misuse : IsWrong query → IsMisuse query status
  pub whole : status ≡ TABLE → IfSome (input_of query left) (λ bytes. (text : List ℕ) × IsText query bytes text × Appends old new text)
  pub part : status ≡ WRITE_FAULT → IfSome (input_of query left) (λ bytes. (text : List ℕ) × IsText query bytes text × (n : ℕ) × Appends old new (take n text))

-- ---- the line

-- what the line of a status says if rows are made
abbrev pub gen_text : ℕ → List ℕ
gen_text status = if status == MISUSED then usage_text else (if status == WRITE_FAULT then codes "write fault" else codes "out of memory")

-- the reason that stands for an answer of `answer_generated`
abbrev pub stop_of_gen : GenAnswer → Stop
stop_of_gen generating.Usage = stop.Usage
stop_of_gen generating.WriteFault = stop.WriteFault
stop_of_gen generating.Memory = stop.Memory

-- a line is that of a status and of the outcome over what a source had left, if that is known
abbrev pub IsOfStatus : Query → Option (List ℕ) → ℕ → List ℕ → Type 0
IsOfStatus (OfTable wanted query) left status said = (o : Outcome) × IsOutcome (plan_in query) left o × table.IsLine (usage_in wanted) (plan_in query) status o said
IsOfStatus (OfJoin words) left status said = joined.IsLine words left status said
IsOfStatus (OfGen words) left status said = said ≡ line (gen_text status)

-- if no workers are asked for, a line names the first of the rows that are refused; that of a join always does
abbrev pub IsFirst : Query → Option (List ℕ) → List ℕ → Type 0
IsFirst (OfTable wanted query) left said = workers_in query ≡ Some 0 → IfSome left (λ bytes. NamesFirst (plan_in query) (outcome_over (plan_in query) bytes) said)
IsFirst (OfJoin words) left said = ⊤
IsFirst (OfGen words) left said = ⊤

-- the line of a status; that of wrong words is how the program is called, whatever a source says
pub record IsLine (query : Query) (left : Option (List ℕ)) (status : ℕ) (said : List ℕ) : Type 0 where
  pub of_status : IsOfStatus query left status said
  pub usage : IsWrong query → status ≡ MISUSED → said ≡ line (usage_of query)
  pub first : status ≡ REFUSED → IsFirst query left said
