-- Which reason to have no table has which status.
use Rattle.std.proofs.Common.{◌≡◌, ◌≢◌, refl}
use Rattle.answer_text.specs.declared.status.TheConstants.{READ_FAULT, TABLE, WRITE_FAULT}
use Rattle.stream_groups.specs.Stops.{stop_says}
use Rattle.stream_groups.specs.declared.stop.Stop.{Stop}
use Rattle.stream_groups.specs.declared.stop.Stop.TheVariants as stop

pub is_read_fault : (why : Stop) → (stop_says why).0 ≡ READ_FAULT → why ≡ stop.ReadFault
is_read_fault stop.Usage is = cc is
is_read_fault stop.ReadFault is = refl
is_read_fault stop.NoHeader is = cc is
is_read_fault (stop.NoColumn name) is = cc is
is_read_fault (stop.TwiceColumn name) is = cc is
is_read_fault (stop.LongRecord row line said) is = cc is
is_read_fault (stop.Refused r) is = cc is
is_read_fault stop.WriteFault is = cc is
is_read_fault stop.Memory is = cc is

pub is_write_fault : (why : Stop) → (stop_says why).0 ≡ WRITE_FAULT → why ≡ stop.WriteFault
is_write_fault stop.Usage is = cc is
is_write_fault stop.ReadFault is = cc is
is_write_fault stop.NoHeader is = cc is
is_write_fault (stop.NoColumn name) is = cc is
is_write_fault (stop.TwiceColumn name) is = cc is
is_write_fault (stop.LongRecord row line said) is = cc is
is_write_fault (stop.Refused r) is = cc is
is_write_fault stop.WriteFault is = refl
is_write_fault stop.Memory is = cc is

pub never_table : (why : Stop) → (stop_says why).0 ≢ TABLE
never_table stop.Usage is = cc is
never_table stop.ReadFault is = cc is
never_table stop.NoHeader is = cc is
never_table (stop.NoColumn name) is = cc is
never_table (stop.TwiceColumn name) is = cc is
never_table (stop.LongRecord row line said) is = cc is
never_table (stop.Refused r) is = cc is
never_table stop.WriteFault is = cc is
never_table stop.Memory is = cc is
