-- A handle may go to another thread: a caller may.
use mir.Raw.{raw}
use denote.Memory.{lone}
use denote.RawPtr.{Ptr}
use base.Shift.{Keyless}
use denote.Struct.Struct.{exits_of}
use denote.Struct.Owning.{shape, fields, to}
use denote.Param.Send.{IsSend, AllSend, owning_send, struct_send, sendable}
use Rattle.std.specs.Prelude.{Option, None, Some}
use Rattle.std.proofs.Crossing as heap
use Rattle.std_alloc.proofs.SendSync.{quiet, lies}
use Rattle.c_table.specs.Owned.{the_heap}
use Rattle.c_records.specs.Owned.{caller_owns}
use Rattle.c_records.specs.contracts.caller.Caller as Caller
use Rattle.c_records.proofs.caller.Caller.TheSendSync.{the_send as caller}
use Rattle.c_records.specs.contracts.handle.Handle.{the_row, the_type}

caller-Keyless : (at : Ptr) (o : Option Caller.the_row.Denot) → Keyless (caller_owns at o)
caller-Keyless at None = tt
caller-Keyless at (Some x) = (lies Caller.the_row caller at x, heap.frees.frees the_heap (raw (lone Caller.the_row.mir)) at)

pub send : IsSend the_row
send =
    let all : AllSend (fields the_type) = (search sendable, (search sendable, tt)) in
    owning_send the_type all (λ d. caller-Keyless d.at d.value)
    (λ k. quiet (to the_type) (exits_of k (fields the_type)) ((struct_send (shape the_type) all).leaving k))
