-- What the words of a command line ask for: the groups of a table by options that name a plan, its rows in order by
-- `merge COLUMNS N`, the join of two tables by `join COLUMN N`, or generated rows by `gen SEED ROWS`.
use Rattle.std.specs.Prelude.{[], ◌⊎◌, ◌≡◌, ℕ, List, Option, Some, IsNone, if◌then◌else◌, ⊤}
use Rattle.gen_query.specs.Words.{gen_of, is_gen}
use Rattle.gen_query.specs.Words as gen
use Rattle.join_query.specs.Lines.{cause_text}
use Rattle.join_query.specs.Words.{is_join, join_of}
use Rattle.join_query.specs.Words as join
use Rattle.join_query.specs.declared.cause.Cause.TheVariants as cause
use Rattle.plan_spec.specs.Merging.{is_merge}
use Rattle.plan_spec.specs.Query as plan
use Rattle.answer_text.specs.declared.status.TheConstants.{MISUSED, NO_MEMORY}
use Rattle.table_query.specs.Asked.{asked, plan_in, usage_in, usage_text}
use Rattle.table_query.specs.declared.wanted.Wanted.{Wanted}
use Rattle.table_query.specs.declared.wanted.Wanted.TheVariants.{Groups, Order}
use Rattle.par_gather.specs.declared.form.Form.{Form}
use Rattle.par_gather.specs.declared.form.Form.TheVariants.{Plan, Merge, Join, Gen}

-- a query over one table, a join of two, or generated rows; none if the words are not right
pub data Query : Type 0 where
  OfTable : Wanted → Option plan.Query → Query
  OfJoin : Option join.Asked → Query
  OfGen : Option gen.Asked → Query

-- the form that words are to have, by the first of them
abbrev pub form_of : List (List ℕ) → Form
form_of words = if is_join words then Join else (if is_merge words then Merge else (if is_gen words then Gen else Plan))

-- what words in a form ask for
abbrev pub query_in : Form → List (List ℕ) → Query
query_in Plan words = OfTable Groups (asked Groups words)
query_in Merge words = OfTable Order (asked Order words)
query_in Join words = OfJoin (join_of words)
query_in Gen words = OfGen (gen_of words)

-- what words ask for
abbrev pub query_of : List (List ℕ) → Query
query_of words = query_in (form_of words) words

-- the words are not right
abbrev pub IsWrong : Query → Type 0
IsWrong (OfTable wanted query) = IsNone (plan_in query)
IsWrong (OfJoin words) = IsNone words
IsWrong (OfGen words) = IsNone words

-- how the program is called; of words that were to make rows it is said how a plan is asked for
abbrev pub usage_of : Query → List ℕ
usage_of (OfTable wanted query) = usage_in wanted
usage_of (OfJoin words) = cause_text [] cause.Usage
usage_of (OfGen words) = usage_text

-- the status of wrong words; it takes memory to read those that are to name a query over one table
abbrev pub IsMisuse : Query → ℕ → Type 0
IsMisuse (OfTable wanted query) status = (status ≡ MISUSED) ⊎ (status ≡ NO_MEMORY)
IsMisuse (OfJoin words) status = status ≡ MISUSED
IsMisuse (OfGen words) status = status ≡ MISUSED

-- nothing of the source is read: the words are wrong, or make their rows
abbrev pub ReadsNothing : Query → Type 0
ReadsNothing (OfTable wanted query) = IsNone (plan_in query)
ReadsNothing (OfJoin words) = IsNone words
ReadsNothing (OfGen words) = ⊤

-- the bytes that the answer is over, if a source says what it had left: generated rows need none
abbrev pub input_of : Query → Option (List ℕ) → Option (List ℕ)
input_of (OfTable wanted query) left = left
input_of (OfJoin words) left = left
input_of (OfGen words) left = Some []
