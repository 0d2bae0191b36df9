-- The outcome of a query over one table, and its status.
use Rattle.std.specs.Prelude.{◌≡◌, ℕ, List, Option, IfSome, length}
use Rattle.csv_rows.specs.Records.{record_at, records_of}
use Rattle.par_model.specs.Named.{NamedPlan, bound_plan}
use Rattle.par_model.specs.Plan.{Plan}
use Rattle.par_model.specs.Outcome.{Outcome, outcome, Usage, TooManyBytes, NoHeader, TooManyRows, NoColumn, Refused, Table}
use Rattle.answer_text.specs.declared.status.TheConstants.{MISUSED, REFUSED, TABLE, TOO_LARGE}

-- the status of an outcome
abbrev pub status_of : Outcome → ℕ
status_of Usage = MISUSED
status_of TooManyBytes = TOO_LARGE
status_of NoHeader = MISUSED
status_of TooManyRows = TOO_LARGE
status_of (NoColumn name) = MISUSED
status_of (Refused rows) = REFUSED
status_of Table = TABLE

-- the outcome of a plan, or of words that are none, over bytes
abbrev pub outcome_over : Option NamedPlan → List ℕ → Outcome
outcome_over plan bytes = outcome plan (length bytes) (records_of bytes)

-- the plan over the columns of the records of bytes
abbrev pub bound_over : NamedPlan → List ℕ → Plan
bound_over plan bytes = bound_plan (record_at (records_of bytes) 0) plan

-- the outcome of a plan over what a source had left, if that is known
abbrev pub IsOutcome : Option NamedPlan → Option (List ℕ) → Outcome → Type 0
IsOutcome plan left o = IfSome left (λ bytes. o ≡ outcome_over plan bytes)
