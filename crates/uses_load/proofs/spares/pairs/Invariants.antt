use Rattle.std.proofs.Common.{◌≤◌}
use Rattle.dsa_area.specs.Shown.{Belongs}
use Rattle.area_spares.specs.Classes.{AreSpares}
use Rattle.uses_load.proofs.spares.pairs.Given as goal

abbrev pub invariant-loop-number : goal.invariant-loop-number
invariant-loop-number g l = record {
  own : Belongs l.area l.pass;
  spares : AreSpares l.r l.spares;
  few : l.good ≤ l.number;
}
