use Rattle.std.proofs.Common.{take}
use Rattle.state_finalize.specs.Finished.{HaveSmallSlots}
use Rattle.state_finalize.proofs.finishing.are_small.Given as goal

abbrev pub invariant-loop-at : goal.invariant-loop-at
invariant-loop-at l = HaveSmallSlots (take l.at l.groups)
