use Rattle.std.proofs.Common.{◌≡◌, ◌≤◌, ℕ}
use Rattle.dshash_parts.specs.Ending.{IsOf, left_of, whole_of}
use Rattle.agg_table.specs.declared.part.HashPart.{HashPart}
use Rattle.agg_table.proofs.Drains.{AddsFrom}
use Rattle.agg_table.proofs.draining.drain.Given as goal

abbrev pub invariant-loop-partition : goal.invariant-loop-partition
invariant-loop-partition l = record {
  of : (part : HashPart) × IsOf l.r part.table l.table;
  few : left_of l.table ≤ 128;
  history : (i : ℕ) → whole_of l.table i ≡ whole_of l.fn.table i;
  adds : AddsFrom (left_of l.table) (whole_of l.fn.table) l.fn.groups l.groups;
}

abbrev pub decreases-loop-partition : goal.decreases-loop-partition
decreases-loop-partition l = left_of l.table
