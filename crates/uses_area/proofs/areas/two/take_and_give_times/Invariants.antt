use Rattle.std.proofs.Common.{◌≡◌, ◌≤◌}
use Rattle.dsa_area.specs.Shown.{Belongs, number_of}
use Rattle.uses_area.proofs.areas.two.take_and_give_times.Given as goal

abbrev pub invariant-loop-number : goal.invariant-loop-number
invariant-loop-number g l = record {
  own : Belongs l.area l.pass;
  caller : number_of l.pass ≡ number_of l.fn.pass;
  few : l.good ≤ l.number;
}
