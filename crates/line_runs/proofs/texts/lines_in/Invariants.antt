use Rattle.std.proofs.Common.{◌≡◌, map, take}
use Rattle.line_runs.specs.Order.{entry_at}
use Rattle.line_runs.specs.Ranges.{entries_of}
use Rattle.line_runs.proofs.texts.lines_in.Given as goal

-- the lines of the range in the runs so far
abbrev pub invariant-loop-at : goal.invariant-loop-at
invariant-loop-at l = map (entry_at l.runs) l.lines.items ≡ entries_of l.ranges (take l.at l.runs) l.range
