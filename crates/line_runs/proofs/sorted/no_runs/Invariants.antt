use Rattle.std.proofs.Common.{◌≡◌, length}
use Rattle.line_runs.proofs.sorted.no_runs.Given as goal

abbrev pub invariant-loop-range : goal.invariant-loop-range
invariant-loop-range l = length l.runs.items ≡ l._range
