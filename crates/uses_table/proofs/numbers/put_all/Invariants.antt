use Rattle.dsa_area.specs.Shown.{Belongs as AreaBelongs}
use Rattle.dshash_numbers.specs.Maps.{ComesFrom, IsNumberTable}
use Rattle.uses_table.proofs.numbers.put_all.Given as goal

abbrev pub invariant-loop-number : goal.invariant-loop-number
invariant-loop-number g l = record {
  table : IsNumberTable l.r l.table;
  home : ComesFrom l.area l.table;
  own : AreaBelongs l.area l.apass;
}
