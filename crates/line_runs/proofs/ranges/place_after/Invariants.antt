use Rattle.std.proofs.Common.{◌≤◌, ◌-◌, length}
use Rattle.line_runs.specs.Ranges.{AllAfter, NoneAfter}
use Rattle.line_runs.proofs.ranges.place_after.Given as goal

-- the place lies between the two
abbrev pub invariant-halves : goal.invariant-halves
invariant-halves l = record {
  up : l.low ≤ l.high;
  within : l.high ≤ length l.run;
  before : NoneAfter l.columns l.run l.key 0 l.low;
  after : AllAfter l.columns l.run l.key l.high (length l.run);
}

abbrev pub decreases-halves : goal.decreases-halves
decreases-halves l = l.high - l.low
