use Rattle.std.proofs.Common.{◌≡◌, ◌-◌, ◌*◌, length, map, take, drop, replicate}
use Rattle.std.specs.List.{AllByRecursion, concat}
use Rattle.par_model.specs.Aggregate.{no_values}
use Rattle.tuple_codec.specs.Tuple.{IsSlot, slot_bytes}
use Rattle.tuple_codec.proofs.read.read_slots.Given as goal

abbrev pub invariant-loop-i : goal.invariant-loop-i
invariant-loop-i l = record { long : length l.slots ≡ 8; bytes : concat (map slot_bytes (take l.i l.slots)) ≡ take (40 * l.i) l.bytes; rest : drop l.i l.slots ≡ replicate (8 - l.i) no_values; numbers : AllByRecursion IsSlot (take l.i l.slots) }
