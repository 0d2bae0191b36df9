use Rattle.state_file.specs.Slices.{AreSlicesTo}
use Rattle.state_file.proofs.eights.slices.Given as goal

abbrev pub invariant-loop-at : goal.invariant-loop-at
invariant-loop-at l = AreSlicesTo l.at l.slices
