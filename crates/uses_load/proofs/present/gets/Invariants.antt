use Rattle.std.proofs.Common.{◌≤◌}
use Rattle.uses_load.specs.Passes.{HasBoth}
use Rattle.uses_load.proofs.present.gets.Given as goal

abbrev pub invariant-loop-i : goal.invariant-loop-i
invariant-loop-i g l = record {
  own : HasBoth l.table l.area l.passes;
  few : l.found ≤ l.i;
}
