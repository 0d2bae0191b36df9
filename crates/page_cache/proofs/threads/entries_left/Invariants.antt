use Rattle.std.proofs.Common.{◌+◌, ◌*◌, ◌≤◌}
use Rattle.std.specs.FinMap as fin
use Rattle.chunk_table.specs.Ending.{IsOf, left_of, whole_of}
use Rattle.chunk_table.specs.Tables.{callers_of}
use Rattle.dshash_parts.specs.Tables.{map_at}
use Rattle.page_cache.specs.Tickets.{sum_below}
use Rattle.page_cache.proofs.threads.entries_left.Given as goal

abbrev pub invariant-loop-partition : goal.invariant-loop-partition
invariant-loop-partition l = record {
  parts : IsOf l.fn.cache.region l.fn.cache.table l.closed;
  few : l.entries + sum_below (left_of l.closed) (λ i. fin.len (map_at (whole_of l.closed) i)) ≤ callers_of l.fn.cache.table * l.fn.cache.share;
}

abbrev pub decreases-loop-partition : goal.decreases-loop-partition
decreases-loop-partition l = left_of l.closed
