use Rattle.std.proofs.Common.{◌≤◌}
use Rattle.dsa_area.specs.Shown.{Belongs as AreaBelongs}
use Rattle.dshash_parts.specs.Tables.{Belongs}
use Rattle.uses_table.proofs.states.table.call_all.Given as goal

abbrev pub invariant-loop-key : goal.invariant-loop-key
invariant-loop-key g l = record {
  own : Belongs l.table l.pass;
  area_own : AreaBelongs l.area l.apass;
  few : l.made ≤ l.key;
}
