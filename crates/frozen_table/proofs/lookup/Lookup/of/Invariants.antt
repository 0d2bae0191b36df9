use Rattle.std.proofs.Common.{◌≡◌}
use Rattle.frozen_table.proofs.Taken.{AreListedTo}
use Rattle.frozen_table.proofs.lookup.Lookup.of.Given as goal

abbrev pub invariant-loop-at : goal.invariant-loop-at
invariant-loop-at g l = record {
  same : l.partitions.items ≡ l.fn.partitions.items;
  listed : AreListedTo l.fn.partitions.items l.at l.indexes.items;
}
