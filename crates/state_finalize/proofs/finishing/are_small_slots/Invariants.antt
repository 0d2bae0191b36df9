use Rattle.std.proofs.Common.{All, take}
use Rattle.result_text.specs.Printable.{IsSmallSlot}
use Rattle.state_finalize.proofs.finishing.are_small_slots.Given as goal

abbrev pub invariant-loop-at : goal.invariant-loop-at
invariant-loop-at l = All IsSmallSlot (take l.at l.slots)
