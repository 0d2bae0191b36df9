use Rattle.std.proofs.Common.{◌≤◌, length}
use Rattle.good_rows.proofs.line.last_line_end.Given as goal

abbrev pub invariant-bytes : goal.invariant-bytes
invariant-bytes l = l.at ≤ length l.bytes

abbrev pub decreases-bytes : goal.decreases-bytes
decreases-bytes l = l.at
