use Rattle.std.proofs.Common.{◌≡◌, ◌≤◌, ◌-◌, take}
use Rattle.std.specs.Prelude.{codes}
use Rattle.dshash_numbers.specs.Maps.{ComesFrom, IsNumberTable}
use Rattle.shell_memory.specs.Chunks.{IsHeap}
use Rattle.shell_memory.specs.Tables.{Puts}
use Rattle.shell_memory.proofs.table.fill.Given as goal

abbrev pub invariant-puts : goal.invariant-puts
invariant-puts g l = record {
  heap : IsHeap l.r l.heap;
  area : l.heap.area ≡ l.fn.heap.area;
  table : IsNumberTable l.r l.table;
  home : ComesFrom l.heap.area l.table;
  begins : take 1 l.key.items ≡ codes "f";
  puts : Puts l.fn.heap.area l.made l.new l.fn.table l.fn.heap.pass l.table l.heap.pass;
  made : l.made ≤ l.count;
  few : l.new ≤ l.made;
}

abbrev pub decreases-puts : goal.decreases-puts
decreases-puts g l = l.count - l.made
