-- Why nothing is written: the status, and what its line says.
use Rattle.std.specs.Prelude.{[], ◌++◌, ◌∷◌, ℕ, List, codes, decimal, string_bytes}
use Rattle.answer_text.specs.declared.status.TheConstants.{MISUSED, NO_MEMORY, READ_FAULT, REFUSED, TOO_LARGE, WRITE_FAULT}
use Rattle.state_text.specs.Causes.{cause_text}
use Rattle.state_text.specs.Covers.{cover_text, gap_text}
use Rattle.state_query.specs.declared.stop.Stop.{Stop}
use Rattle.state_query.specs.declared.stop.Stop.TheVariants as stop
use Rattle.state_query.specs.declared.stop.TheConstants.{BAD_STATES, MISSING}

-- a text as a line of the program, ended by a line feed
abbrev pub line : List ℕ → List ℕ
line text = codes "parstream: " ++ (text ++ 10 ∷ [])

-- of a file of the input by its number
abbrev pub file_says : ℕ → List ℕ → List ℕ
file_says number said = codes "file " ++ (decimal number ++ (codes ": " ++ said))

-- of a row of a source
abbrev pub row_says : ℕ → ℕ → List ℕ → List ℕ
row_says source row said = codes "source " ++ (decimal source ++ (codes " row " ++ (decimal row ++ (codes ": " ++ said))))

-- the status of a reason, and what its line says
abbrev pub stop_says : Stop → ℕ × List ℕ
stop_says stop.ReadFault = (READ_FAULT, codes "read fault")
stop_says (stop.Load fault) = (BAD_STATES, file_says fault.file (cause_text fault.why))
stop_says stop.NoPlan = (BAD_STATES, file_says 1 (codes "no right head"))
stop_says (stop.Cover why) = (BAD_STATES, cover_text why)
stop_says (stop.Missing gap) = (MISSING, gap_text gap)
stop_says stop.Rows = (BAD_STATES, codes "a group has too many rows")
stop_says (stop.Refused source row said) = (REFUSED, row_says source row (string_bytes said))
stop_says stop.Long = (TOO_LARGE, codes "too long for a file of states")
stop_says stop.NoKey = (MISUSED, codes "--above and --below take a record of the columns that the plan groups by")
stop_says stop.WriteFault = (WRITE_FAULT, codes "write fault")
stop_says stop.Memory = (NO_MEMORY, codes "out of memory")
