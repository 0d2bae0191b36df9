use Rattle.std.proofs.Common.{All, take}
use Rattle.state_total.specs.Total.{IsCounted}
use Rattle.state_total.proofs.total.first_refused.Given as goal

abbrev pub invariant-loop-at : goal.invariant-loop-at
invariant-loop-at l = All IsCounted (take l.at l.cover)
