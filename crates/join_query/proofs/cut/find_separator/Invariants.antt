use Rattle.std.proofs.Common.{◌≤◌, ◌-◌, length}
use Rattle.memchr.specs.Find.{Nowhere}
use Rattle.join_query.specs.Outcome.{IsSeparator}
use Rattle.join_query.proofs.cut.find_separator.Given as goal

abbrev pub invariant-marks : goal.invariant-marks
invariant-marks l = record { within : l.at ≤ length l.bytes; none : Nowhere (IsSeparator l.bytes) 0 l.at }

abbrev pub decreases-marks : goal.decreases-marks
decreases-marks l = length l.bytes - l.at
