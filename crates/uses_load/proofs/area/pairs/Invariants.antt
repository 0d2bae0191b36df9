use Rattle.std.proofs.Common.{◌≤◌}
use Rattle.dsa_area.specs.Shown.{Belongs}
use Rattle.uses_load.proofs.area.pairs.Given as goal

abbrev pub invariant-loop-number : goal.invariant-loop-number
invariant-loop-number g l = record {
  own : Belongs l.area l.pass;
  few : l.good ≤ l.number;
}
