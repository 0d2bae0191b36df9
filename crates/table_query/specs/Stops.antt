-- What a reason to have no table says of the outcome.
use Rattle.std.specs.Prelude.{[], ◌≡◌, ⊤, ℕ, List, Option, Some, Contains, slice_get, codes, decimal, ◌++◌, IsSomeAnd, String, string_bytes}
use Rattle.std.specs.Global.{Global}
use Rattle.csv_rows.specs.declared.input.ReadAnswer.{ReadAnswer}
use Rattle.csv_rows.specs.declared.input.ReadAnswer.TheVariants as reading
use Rattle.csv_rows.specs.declared.records.RowsAnswer.{RowsAnswer}
use Rattle.csv_rows.specs.declared.records.RowsAnswer.TheVariants as parsing
use Rattle.par_model.specs.Named.{NamedPlan}
use Rattle.par_model.specs.Outcome.{Outcome, NoColumn, NoHeader, Table, TooManyBytes, TooManyRows, Usage}
use Rattle.par_model.specs.declared.refusal.Refusal.{Refusal}
use Rattle.plan_spec.specs.declared.plan.PlanAnswer.{PlanAnswer}
use Rattle.plan_spec.specs.declared.plan.PlanAnswer.TheVariants as words
use Rattle.table_query.specs.Answers.{IsOutcome}
use Rattle.table_query.specs.Asked.{usage_in}
use Rattle.table_query.specs.Lines.{refusal_text, refused_of}
use Rattle.table_query.specs.declared.wanted.Wanted.{Wanted}
use Rattle.answer_text.specs.declared.status.TheConstants.{MISUSED, NO_MEMORY, READ_FAULT, REFUSED, TOO_LARGE, WRITE_FAULT}
use Rattle.table_query.specs.declared.stop.Stop.{Stop}
use Rattle.table_query.specs.declared.stop.Stop.TheVariants as stop

-- the status of a reason
abbrev pub stop_status : Stop → ℕ
stop_status stop.Usage = MISUSED
stop_status stop.ReadFault = READ_FAULT
stop_status stop.TooManyBytes = TOO_LARGE
stop_status stop.NoHeader = MISUSED
stop_status stop.TooManyRows = TOO_LARGE
stop_status (stop.NoColumn name) = MISUSED
stop_status (stop.Refused row why) = REFUSED
stop_status stop.WriteFault = WRITE_FAULT
stop_status stop.Memory = NO_MEMORY

-- what the line of a reason says, given what was wanted; if it names a row, only what comes after the row's number
abbrev pub text_of : Wanted → Stop → List ℕ
text_of wanted stop.Usage = usage_in wanted
text_of wanted stop.ReadFault = codes "read fault"
text_of wanted stop.TooManyBytes = codes "more than 67108864 bytes"
text_of wanted stop.NoHeader = codes "no header"
text_of wanted stop.TooManyRows = codes "more than 4194304 rows"
text_of wanted (stop.NoColumn name) = codes "no column " ++ string_bytes name
text_of wanted (stop.Refused row why) = string_bytes why
text_of wanted stop.WriteFault = codes "write fault"
text_of wanted stop.Memory = codes "out of memory"

-- what the line says before that: the row that it names, if it names one
abbrev pub front_of : Stop → List ℕ
front_of stop.Usage = []
front_of stop.ReadFault = []
front_of stop.TooManyBytes = []
front_of stop.NoHeader = []
front_of stop.TooManyRows = []
front_of (stop.NoColumn name) = []
front_of (stop.Refused row why) = codes "row " ++ (decimal row ++ codes ": ")
front_of stop.WriteFault = []
front_of stop.Memory = []

-- all that the line of a reason says
abbrev pub stop_text : Wanted → Stop → List ℕ
stop_text wanted why = front_of why ++ text_of wanted why

-- the outcome refuses this row, and this says why
pub record RefusesRow (plan : NamedPlan) (row : ℕ) (why : List ℕ) (o : Outcome) : Type 0 where
  pub refusal : Refusal
  pub has : Contains (refused_of o) (row, refusal)
  pub says : why ≡ refusal_text plan refusal

-- the outcome refuses this row first, and this says why
pub record RefusesFirst (plan : NamedPlan) (row : ℕ) (why : List ℕ) (o : Outcome) : Type 0 where
  pub refusal : Refusal
  pub first : slice_get (refused_of o) 0 ≡ Some (row, refusal)
  pub says : why ≡ refusal_text plan refusal

-- what a reason says of the outcome
abbrev pub Explains : Option NamedPlan → Stop → Outcome → Type 0
Explains plan stop.Usage o = o ≡ Usage
Explains plan stop.ReadFault o = ⊤
Explains plan stop.TooManyBytes o = o ≡ TooManyBytes
Explains plan stop.NoHeader o = o ≡ NoHeader
Explains plan stop.TooManyRows o = o ≡ TooManyRows
Explains plan (stop.NoColumn name) o = o ≡ NoColumn (string_bytes name)
Explains plan (stop.Refused row why) o = IsSomeAnd plan (λ plan. RefusesRow plan row (string_bytes why) o)
Explains plan stop.WriteFault o = o ≡ Table
Explains plan stop.Memory o = ⊤

-- if a reason names a row, it is the first that the outcome refuses
abbrev pub IsFirstStop : Option NamedPlan → Stop → Outcome → Type 0
IsFirstStop plan stop.Usage o = ⊤
IsFirstStop plan stop.ReadFault o = ⊤
IsFirstStop plan stop.TooManyBytes o = ⊤
IsFirstStop plan stop.NoHeader o = ⊤
IsFirstStop plan stop.TooManyRows o = ⊤
IsFirstStop plan (stop.NoColumn name) o = ⊤
IsFirstStop plan (stop.Refused row why) o = IsSomeAnd plan (λ plan. RefusesFirst plan row (string_bytes why) o)
IsFirstStop plan stop.WriteFault o = ⊤
IsFirstStop plan stop.Memory o = ⊤

-- a reason that can hold before the rows are looked at
abbrev pub IsEarly : Stop → Type 0
IsEarly stop.Usage = ⊤
IsEarly stop.ReadFault = ⊤
IsEarly stop.TooManyBytes = ⊤
IsEarly stop.NoHeader = ⊤
IsEarly stop.TooManyRows = ⊤
IsEarly (stop.NoColumn name) = ⊤
IsEarly (stop.Refused row why) = ⊥
IsEarly stop.WriteFault = ⊥
IsEarly stop.Memory = ⊤

-- a reason explains an outcome, which is that of the plan over what the source had left, if that is known
abbrev pub IsExplained : Option NamedPlan → Option (List ℕ) → Stop → Type 0
IsExplained plan left why = (o : Outcome) × IsOutcome plan left o × Explains plan why o

-- the reason that an answer of `of_words` gives
abbrev pub stop_of_words : PlanAnswer → Stop
stop_of_words words.Usage = stop.Usage
stop_of_words words.Memory = stop.Memory

-- the reason that an answer of `read_all` gives
abbrev pub stop_of_reading : ReadAnswer → Stop
stop_of_reading reading.ReadFault = stop.ReadFault
stop_of_reading reading.TooManyBytes = stop.TooManyBytes
stop_of_reading reading.Memory = stop.Memory

-- the reason that an answer of `rows` gives
abbrev pub stop_of_parsing : RowsAnswer → Stop
stop_of_parsing parsing.NoHeader = stop.NoHeader
stop_of_parsing parsing.TooManyRows = stop.TooManyRows
stop_of_parsing parsing.Memory = stop.Memory

-- the reason is that this row is refused, and has the text of the refusal
abbrev pub IsRefusedRow : NamedPlan → ℕ → Refusal → Stop → Type 0
IsRefusedRow plan row refusal why = (cause : String Global) × (why ≡ stop.Refused row cause) × (string_bytes cause ≡ refusal_text plan refusal)
