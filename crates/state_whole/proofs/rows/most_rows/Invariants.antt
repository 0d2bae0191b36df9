use Rattle.state_whole.proofs.Bounds.{IsMostTo}
use Rattle.state_whole.proofs.rows.most_rows.Given as goal

abbrev pub invariant-loop-at : goal.invariant-loop-at
invariant-loop-at l = IsMostTo l.groups l.at l.most
