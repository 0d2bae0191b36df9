-- The statuses of the outcomes, and what their lines say.
use Rattle.std.specs.Prelude.{◌≡◌, ◌≢◌, ◌==◌, ◌++◌, [], ℕ, Bool, true, false, List, Option, None, Some, IfSome, IsNone, codes, decimal, if◌then◌else◌}
use Rattle.par_model.specs.Refuse.{width_cause}
use Rattle.answer_text.specs.Lines.{line}
use Rattle.answer_text.specs.declared.status.TheConstants.{MISUSED, NO_MEMORY, READ_FAULT, REFUSED, TABLE, TOO_LARGE, WRITE_FAULT}
use Rattle.join_query.specs.Outcome.{Outcome, IsOutcome, Fails, Joins}
use Rattle.join_query.specs.Words.{Asked}
use Rattle.join_query.specs.declared.cause.Cause.{Cause}
use Rattle.join_query.specs.declared.cause.Cause.TheVariants as cause

-- the status of a cause
abbrev pub cause_status : Cause → ℕ
cause_status cause.Usage = MISUSED
cause_status cause.TooManyBytes = TOO_LARGE
cause_status cause.NoSecondTable = MISUSED
cause_status (cause.NoHeader of_right) = MISUSED
cause_status cause.TooManyRows = TOO_LARGE
cause_status (cause.NoColumn of_right) = MISUSED
cause_status (cause.Refused of_right row why) = REFUSED
cause_status cause.TooManyPairs = TOO_LARGE

-- the status of an outcome
abbrev pub status_of : Outcome → ℕ
status_of (Fails why) = cause_status why
status_of (Joins records) = TABLE

-- which table it is
abbrev pub side_text : Bool → List ℕ
side_text false = codes "left"
side_text true = codes "right"

-- why a row is refused
abbrev pub refusal_text : ℕ → List ℕ
refusal_text why = if why == width_cause then codes "wrong number of fields" else codes "join key is longer than 248 bytes"

-- what the line of a cause says, if the column has this name
abbrev pub cause_text : List ℕ → Cause → List ℕ
cause_text name cause.Usage = codes "usage: pargather join COLUMN N"
cause_text name cause.TooManyBytes = codes "more than 67108864 bytes"
cause_text name cause.NoSecondTable = codes "no second table"
cause_text name (cause.NoHeader of_right) = codes "no " ++ (side_text of_right ++ codes " header")
cause_text name cause.TooManyRows = codes "more than 4194304 rows"
cause_text name (cause.NoColumn of_right) = codes "no " ++ (side_text of_right ++ (codes " column " ++ name))
cause_text name (cause.Refused of_right row why) = side_text of_right ++ (codes " row " ++ (decimal row ++ (codes ": " ++ refusal_text why)))
cause_text name cause.TooManyPairs = codes "more than 1048576 pairs"

-- the name of the column that words ask for; words that are none have none
abbrev pub name_of : Option Asked → List ℕ
name_of None = []
name_of (Some asked) = asked.column

-- a status is that of what words ask for over bytes: there is one outcome, and it has this status
pub record IsStatus (asked : Option Asked) (bytes : List ℕ) (status : ℕ) : Type 0 where
  pub outcome : Outcome
  pub is : IsOutcome asked bytes outcome
  pub status_is : status_of outcome ≡ status
  pub one : (o : Outcome) → IsOutcome asked bytes o → o ≡ outcome

-- a status that reports no fault
pub record IsNoFault (status : ℕ) : Type 0 where
  pub read : status ≢ READ_FAULT
  pub write : status ≢ WRITE_FAULT
  pub memory : status ≢ NO_MEMORY

-- a status and its line are those of a cause, which is the outcome over what a source had left, if that is known
pub record IsCauseLine (asked : Option Asked) (left : Option (List ℕ)) (status : ℕ) (said : List ℕ) : Type 0 where
  pub why : Cause
  pub is : IfSome left (λ bytes. IsOutcome asked bytes (Fails why))
  pub status_is : cause_status why ≡ status
  pub says : said ≡ line (cause_text (name_of asked) why)

-- the line of a status; that of words that are none is how the program is called, whatever a source says
pub record IsLine (asked : Option Asked) (left : Option (List ℕ)) (status : ℕ) (said : List ℕ) : Type 0 where
  pub usage : IsNone asked → said ≡ line (cause_text [] cause.Usage)
  pub read_fault : status ≡ READ_FAULT → said ≡ line (codes "read fault")
  pub write_fault : status ≡ WRITE_FAULT → said ≡ line (codes "write fault")
  pub no_memory : status ≡ NO_MEMORY → said ≡ line (codes "out of memory")
  pub cause : IsNoFault status → IsCauseLine asked left status said
