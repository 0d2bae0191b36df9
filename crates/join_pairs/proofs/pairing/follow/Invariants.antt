use Rattle.std.proofs.Common.{◌≤◌, ◌-◌, length}
use Rattle.join_pairs.specs.Join.{most_pairs}
use Rattle.join_pairs.specs.Chains.{before_in}
use Rattle.join_pairs.proofs.Following.{Follows}
use Rattle.join_pairs.proofs.pairing.follow.Given as goal

abbrev pub invariant-loop-left : goal.invariant-loop-left
invariant-loop-left l = (length l.pairs.items ≤ most_pairs) × Follows (before_in l.chains.befores.items) l.last l.right l.initial.pairs.items l.left l.pairs.items

abbrev pub decreases-loop-left : goal.decreases-loop-left
decreases-loop-left l = most_pairs - length l.pairs.items
