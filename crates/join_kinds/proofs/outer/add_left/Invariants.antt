use Rattle.std.proofs.Common.{◌≤◌, ◌-◌, length}
use Rattle.join_kinds.proofs.Merging.{HasAdded}
use Rattle.join_kinds.proofs.outer.add_left.Given as goal

abbrev pub invariant-loop-at : goal.invariant-loop-at
invariant-loop-at l = (l.at ≤ length l.pairs) × HasAdded l.pairs l.from l.row l.initial.joined.items l.at l.joined.items

abbrev pub decreases-loop-at : goal.decreases-loop-at
decreases-loop-at l = length l.pairs - l.at
