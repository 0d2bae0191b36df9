use Rattle.state_cover.proofs.Settled.{IsSettledTo}
use Rattle.state_cover.proofs.joining.settle.Given as goal

abbrev pub invariant-loop-at : goal.invariant-loop-at
invariant-loop-at l = IsSettledTo l.sources l.stretches l.cover.items l.last l.at
