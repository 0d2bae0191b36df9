-- The lines that say why a query has no table.
use Rattle.std.specs.Prelude.{[], ◌≡◌, ◌==◌, ◌++◌, ℕ, zero, suc, List, Option, Some, Contains, IsSomeAnd, codes, decimal, if◌then◌else◌, option_and_then, slice_get, unwrap_or}
use Rattle.std.specs.Option.{option_map_or}
use Rattle.par_model.specs.Named.{NamedPlan}
use Rattle.par_model.specs.Outcome.{Outcome, Usage, TooManyBytes, NoHeader, TooManyRows, NoColumn, Refused, Table}
use Rattle.par_model.specs.Refuse.{item_cause, key_cause, width_cause}
use Rattle.par_model.specs.declared.refusal.Refusal.{Refusal}
use Rattle.table_query.specs.Answers.{status_of}
use Rattle.answer_text.specs.Lines.{line}
use Rattle.answer_text.specs.declared.status.TheConstants.{MISUSED, NO_MEMORY, READ_FAULT, REFUSED, TOO_LARGE, WRITE_FAULT}

-- what a line says of an outcome that is neither a refusal of rows nor a table, given what it says of words that are no
-- plan
abbrev pub outcome_text : List ℕ → Outcome → List ℕ
outcome_text usage Usage = usage
outcome_text usage TooManyBytes = codes "more than 67108864 bytes"
outcome_text usage NoHeader = codes "no header"
outcome_text usage TooManyRows = codes "more than 4194304 rows"
outcome_text usage (NoColumn name) = codes "no column " ++ name
outcome_text usage (Refused rows) = []
outcome_text usage Table = []

-- the name of the column that the aggregate at a place reads
abbrev pub item_name : NamedPlan → ℕ → List ℕ
item_name plan place = unwrap_or (option_and_then (λ item. item.column) (slice_get plan.items place)) []

-- the name of the column of the filter at a place
abbrev pub filter_name : NamedPlan → ℕ → List ℕ
filter_name plan place = option_map_or (λ filter. filter.column) (slice_get plan.filters place) []

-- the places of the numbers of that column
abbrev pub item_places : NamedPlan → ℕ → ℕ
item_places plan place = option_map_or (λ item. item.places) (slice_get plan.items place) 0

-- the places of the numbers of that column
abbrev pub filter_places : NamedPlan → ℕ → ℕ
filter_places plan place = option_map_or (λ filter. filter.places) (slice_get plan.filters place) 0

-- what a field is not that is no number of at most this many places
abbrev pub number_kind : ℕ → List ℕ
number_kind zero = codes " is not an integer"
number_kind (suc zero) = codes " is not a decimal with at most 1 place"
number_kind places = codes " is not a decimal with at most " ++ (decimal places ++ codes " places")

-- why a row is refused
abbrev pub refusal_text : NamedPlan → Refusal → List ℕ
refusal_text plan why =
    if why.cause == width_cause then codes "wrong number of fields"
    else (if why.cause == key_cause then codes "group key is longer than 248 bytes"
    else (if why.cause == item_cause then codes "column " ++ (item_name plan why.item ++ number_kind (item_places plan why.item))
    else codes "filter column " ++ (filter_name plan why.item ++ number_kind (filter_places plan why.item))))

-- what a line says of a refused row
abbrev pub row_text : NamedPlan → ℕ × Refusal → List ℕ
row_text plan row = codes "row " ++ (decimal row.0 ++ (codes ": " ++ refusal_text plan row.1))

-- the rows that an outcome refuses, each with its cause
abbrev pub refused_of : Outcome → List (ℕ × Refusal)
refused_of Usage = []
refused_of TooManyBytes = []
refused_of NoHeader = []
refused_of TooManyRows = []
refused_of (NoColumn name) = []
refused_of (Refused rows) = rows
refused_of Table = []

-- the line names a row that the outcome of a plan refuses, with its cause
abbrev pub NamesRow : Option NamedPlan → Outcome → List ℕ → Type 0
NamesRow plan outcome said = IsSomeAnd plan (λ plan. (row : ℕ × Refusal) × Contains (refused_of outcome) row × (said ≡ line (row_text plan row)))

-- the line names the first row that the outcome of a plan refuses, with its cause
abbrev pub NamesFirst : Option NamedPlan → Outcome → List ℕ → Type 0
NamesFirst plan outcome said = IsSomeAnd plan (λ plan. (row : ℕ × Refusal) × (slice_get (refused_of outcome) 0 ≡ Some row) × (said ≡ line (row_text plan row)))

-- the line of a status; if the status is one of an outcome, the outcome has it, and the line is that of the outcome
pub record IsLine (usage : List ℕ) (plan : Option NamedPlan) (status : ℕ) (outcome : Outcome) (said : List ℕ) : Type 0 where
  pub refused : status ≡ REFUSED → NamesRow plan outcome said
  pub misused : status ≡ MISUSED → (status_of outcome ≡ MISUSED) × (said ≡ line (outcome_text usage outcome))
  pub read_fault : status ≡ READ_FAULT → said ≡ line (codes "read fault")
  pub write_fault : status ≡ WRITE_FAULT → said ≡ line (codes "write fault")
  pub no_memory : status ≡ NO_MEMORY → said ≡ line (codes "out of memory")
  pub too_much : status ≡ TOO_LARGE → (status_of outcome ≡ TOO_LARGE) × (said ≡ line (outcome_text usage outcome))
