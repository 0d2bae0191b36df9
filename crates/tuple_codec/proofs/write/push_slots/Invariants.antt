use Rattle.std.proofs.Common.{◌≡◌, ◌+◌, ◌*◌, ◌++◌, All, map, take}
use Rattle.std.specs.List.{concat}
use Rattle.tuple_codec.specs.Tuple.{IsSlot, slot_bytes}
use Rattle.tuple_codec.proofs.write.push_slots.Given as goal

abbrev pub invariant-loop-slot : goal.invariant-loop-slot
invariant-loop-slot l = record { bytes : take l.tuple.len l.tuple.bytes ≡ take l.fn.tuple.len l.fn.tuple.bytes ++ concat (map slot_bytes (take l.slot-index (take l.count l.slots))); len : l.tuple.len ≡ l.fn.tuple.len + 40 * l.slot-index; numbers : All IsSlot (take l.slot-index (take l.count l.slots)) }
