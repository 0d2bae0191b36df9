-- Which reason has which status, and which reasons are not of the bytes.
use Rattle.std.proofs.Common.{◌≡◌, ◌≢◌, ℕ, List, refl, subst}
use Rattle.answer_text.specs.declared.status.TheConstants.{READ_FAULT, WRITE_FAULT}
use Rattle.state_query.specs.Stops.{stop_says}
use Rattle.state_query.specs.Whys.{IsStopOf}
use Rattle.state_query.specs.declared.stop.Stop.{Stop}
use Rattle.state_query.specs.declared.stop.Stop.TheVariants as stop
use Rattle.state_query.specs.declared.stop.TheConstants.{WRITTEN}

pub is_read_fault : (why : Stop) → (stop_says why).0 ≡ READ_FAULT → why ≡ stop.ReadFault
is_read_fault stop.ReadFault is = refl
is_read_fault (stop.Load fault) is = cc is
is_read_fault stop.NoPlan is = cc is
is_read_fault (stop.Cover why) is = cc is
is_read_fault (stop.Missing gap) is = cc is
is_read_fault stop.Rows is = cc is
is_read_fault (stop.Refused source row said) is = cc is
is_read_fault stop.Long is = cc is
is_read_fault stop.WriteFault is = cc is
is_read_fault stop.Memory is = cc is
is_read_fault stop.NoKey is = cc is

pub is_write_fault : (why : Stop) → (stop_says why).0 ≡ WRITE_FAULT → why ≡ stop.WriteFault
is_write_fault stop.ReadFault is = cc is
is_write_fault (stop.Load fault) is = cc is
is_write_fault stop.NoPlan is = cc is
is_write_fault (stop.Cover why) is = cc is
is_write_fault (stop.Missing gap) is = cc is
is_write_fault stop.Rows is = cc is
is_write_fault (stop.Refused source row said) is = cc is
is_write_fault stop.Long is = cc is
is_write_fault stop.WriteFault is = refl
is_write_fault stop.Memory is = cc is
is_write_fault stop.NoKey is = cc is

pub never_written : (why : Stop) → (stop_says why).0 ≢ WRITTEN
never_written stop.ReadFault is = cc is
never_written (stop.Load fault) is = cc is
never_written stop.NoPlan is = cc is
never_written (stop.Cover why) is = cc is
never_written (stop.Missing gap) is = cc is
never_written stop.Rows is = cc is
never_written (stop.Refused source row said) is = cc is
never_written stop.Long is = cc is
never_written stop.WriteFault is = cc is
never_written stop.Memory is = cc is
never_written stop.NoKey is = cc is

pub no_read_fault : (bytes : List ℕ) (why : Stop) → IsStopOf bytes why → why ≢ stop.ReadFault
no_read_fault bytes why is e = subst (IsStopOf bytes) e is

pub no_write_fault : (bytes : List ℕ) (why : Stop) → IsStopOf bytes why → why ≢ stop.WriteFault
no_write_fault bytes why is e = subst (IsStopOf bytes) e is
