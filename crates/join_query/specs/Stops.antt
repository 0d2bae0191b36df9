-- What a reason to have no table says of the outcome.
use Rattle.std.specs.Prelude.{ℕ, List, Option, IfSome, codes, ⊤}
use Rattle.csv_rows.specs.declared.input.ReadAnswer.{ReadAnswer}
use Rattle.csv_rows.specs.declared.input.ReadAnswer.TheVariants as reading
use Rattle.answer_text.specs.declared.status.TheConstants.{NO_MEMORY, READ_FAULT, WRITE_FAULT}
use Rattle.join_query.specs.Lines.{cause_status, cause_text}
use Rattle.join_query.specs.Outcome.{Outcome, IsOutcome, Fails}
use Rattle.join_query.specs.Words.{Asked}
use Rattle.join_query.specs.declared.cause.Cause.TheVariants as cause
use Rattle.join_query.specs.declared.stop.Stop.{Stop}
use Rattle.join_query.specs.declared.stop.Stop.TheVariants as stop

-- a reason that is a cause is the outcome; a fault and a lack of memory say nothing of it
abbrev pub Explains : (Outcome → Type 0) → Stop → Type 0
Explains P (stop.Because why) = P (Fails why)
Explains P stop.ReadFault = ⊤
Explains P stop.WriteFault = ⊤
Explains P stop.Memory = ⊤

-- a reason explains the outcome over what a source had left, if that is known
abbrev pub IsExplained : Option Asked → Option (List ℕ) → Stop → Type 0
IsExplained asked left why = IfSome left (λ bytes. Explains (IsOutcome asked bytes) why)

-- the status of a reason
abbrev pub stop_status : Stop → ℕ
stop_status (stop.Because why) = cause_status why
stop_status stop.ReadFault = READ_FAULT
stop_status stop.WriteFault = WRITE_FAULT
stop_status stop.Memory = NO_MEMORY

-- what its line says, if the column has this name
abbrev pub stop_text : List ℕ → Stop → List ℕ
stop_text name (stop.Because why) = cause_text name why
stop_text name stop.ReadFault = codes "read fault"
stop_text name stop.WriteFault = codes "write fault"
stop_text name stop.Memory = codes "out of memory"

-- the reason that stands for an answer of `read_all`
abbrev pub stop_of_reading : ReadAnswer → Stop
stop_of_reading reading.ReadFault = stop.ReadFault
stop_of_reading reading.TooManyBytes = stop.Because cause.TooManyBytes
stop_of_reading reading.Memory = stop.Memory
