use Rattle.line_runs.proofs.Whole.{ReadsFirst}
use Rattle.line_runs.proofs.order.Shared.between.Given as goal

-- what was read of the lower key are this many whole columns
abbrev pub invariant-loop-at : goal.invariant-loop-at
invariant-loop-at l = ReadsFirst l.low l.left l._at
