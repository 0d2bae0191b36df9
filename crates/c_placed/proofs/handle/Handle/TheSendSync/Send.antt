-- A handle may go to another thread: a side of a queue may.
use mir.Raw.{raw}
use denote.Memory.{lone}
use denote.RawPtr.{Ptr}
use base.Shift.{Keyless}
use denote.Struct.Struct.{exits_of}
use denote.Struct.Owning.{shape, fields, to}
use denote.Param.Send.{IsSend, AllSend, owning_send, struct_send, sendable}
use Rattle.std.specs.Prelude.{Option, None, Some}
use Rattle.std.proofs.Crossing as heap
use Rattle.std_alloc.proofs.SendSync.{quiet, lies}
use Rattle.c_placed.specs.Owned.{end_owns, the_heap}
use Rattle.c_placed.specs.contracts.end.End as End
use Rattle.c_placed.proofs.end.End.TheSendSync.{the_send as end}
use Rattle.c_placed.specs.contracts.handle.Handle.{the_row, the_type}

end-Keyless : (at : Ptr) (o : Option End.the_row.Denot) → Keyless (end_owns at o)
end-Keyless at None = tt
end-Keyless at (Some x) = (lies End.the_row end at x, heap.frees.frees the_heap (raw (lone End.the_row.mir)) at)

pub send : IsSend the_row
send =
    let all : AllSend (fields the_type) = (search sendable, (search sendable, tt)) in
    owning_send the_type all (λ d. end-Keyless d.at d.value)
    (λ k. quiet (to the_type) (exits_of k (fields the_type)) ((struct_send (shape the_type) all).leaving k))
