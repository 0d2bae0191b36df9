use Rattle.std.proofs.Common.{◌≡◌, ◌+◌, ℕ, length, reverse, vec_capacity}
use Rattle.dshash_parts.specs.Ending.{IsOf, left_of, whole_of}
use Rattle.frozen_table.proofs.Taken.{AreTaken}
use Rattle.frozen_table.proofs.table.take_all.Given as goal

abbrev pub invariant-loop-partition : goal.invariant-loop-partition
invariant-loop-partition g l = record {
  count : left_of l.table + length l.partitions.items ≡ 128;
  room : vec_capacity l.partitions ≡ 128;
  history : (i : ℕ) → whole_of l.table i ≡ whole_of l.fn.table i;
  of : (region : _) (t : _) → IsOf region t l.fn.table → IsOf region t l.table;
  taken : (region : _) (t : _) → IsOf region t l.fn.table → AreTaken region t (whole_of l.fn.table) (left_of l.table) (reverse l.partitions.items);
}

abbrev pub decreases-loop-partition : goal.decreases-loop-partition
decreases-loop-partition g l = left_of l.table
