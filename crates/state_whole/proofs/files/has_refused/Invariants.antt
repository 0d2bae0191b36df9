use Rattle.std.proofs.Common.{◌≡◌, drop}
use Rattle.state_whole.specs.Sums.{has_refused}
use Rattle.state_whole.proofs.files.has_refused.Given as goal

abbrev pub invariant-loop-at : goal.invariant-loop-at
invariant-loop-at l = has_refused (drop l.at l.cover) ≡ has_refused l.cover
