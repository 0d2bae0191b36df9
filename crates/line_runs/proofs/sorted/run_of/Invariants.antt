use Rattle.std.proofs.Common.{◌≡◌, map, take}
use Rattle.line_runs.specs.Order.{entry_at}
use Rattle.line_runs.proofs.sorted.run_of.Given as goal

abbrev pub invariant-loop-line : goal.invariant-loop-line
invariant-loop-line l = l.run ≡ map (entry_at l.runs) (take l.line-index l.lines)
