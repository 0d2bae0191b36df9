use Rattle.std.proofs.Common.{◌≡◌, Ok, map}
use Rattle.line_runs.proofs.sorted.all_made.Given as goal

abbrev pub invariant-loop-run : goal.invariant-loop-run
invariant-loop-run l = map Ok l.runs.items ≡ l.yielded
