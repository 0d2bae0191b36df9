-- Why a script was not answered to its end.
use Rattle.std.specs.Prelude.{ℕ}
use Rattle.par_shell.specs.declared.status.TheConstants.{MISUSED, NO_MEMORY, READ_FAULT, TOO_LARGE, WRITE_FAULT}
use Rattle.par_shell.specs.declared.stop.Stop.{Stop}
use Rattle.par_shell.specs.declared.stop.Stop.TheVariants.{Usage, ReadFault, WriteFault, Memory, TooLong}

-- its status
abbrev pub status_of : Stop → ℕ
status_of Usage = MISUSED
status_of ReadFault = READ_FAULT
status_of WriteFault = WRITE_FAULT
status_of Memory = NO_MEMORY
status_of TooLong = TOO_LARGE
