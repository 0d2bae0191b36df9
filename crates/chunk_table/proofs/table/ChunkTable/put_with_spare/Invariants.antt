use Rattle.std.proofs.Common.{◌≡◌, ◌+◌, ◌-◌, ◌*◌, None, is_some}
use Rattle.lock_book.specs.Shown.{Belongs, number_of, seen_of}
use Rattle.dsa_area.specs.Shown as area
use Rattle.dshash_core.specs.Key.{hash_of}
use Rattle.dshash_core.specs.Cells.{partition_of}
use Rattle.dshash_chunks.specs.Held.{held_in, stepped}
use Rattle.dshash_chunks.specs.declared.held.ChunkCalls.TheVariants as chunk
use Rattle.dshash_parts.specs.Tables.{size_at}
use Rattle.chunk_table.specs.Tables.{IsSpare, item_of, sight_of}
use Rattle.dshash_parts.specs.Promises.{one_if}
use Rattle.dshash_parts.specs.Rounds.{Underway}
use Rattle.chunk_table.proofs.table.ChunkTable.put_with_spare.Given as goal

abbrev pub invariant-turns : goal.invariant-turns
invariant-turns g l = record {
  own : Belongs l.self.shelf l.pass;
  caller : number_of l.pass ≡ number_of l.fn.pass;
  area_own : area.Belongs l.area l.apass;
  area_caller : area.number_of l.apass ≡ area.number_of l.fn.apass;
  spare : IsSpare l.r l.self l.held;
  none : l.spare ≡ None;
  carried : l.carried ≡ l.fn.chunk;
  underway : Underway (partition_of (hash_of l.key)) (item_of l.self) l.key (chunk.Put (held_in l.fn.chunk)) (stepped g.W.ChunkObject.worked) l.area (number_of l.fn.pass) (is_some l.fn.spare) (is_some l.held) (sight_of l.fn.pass l.fn.apass) (sight_of l.pass l.apass);
}

-- how far the size of the key's partition may still grow, and whether an item is still to be got
abbrev pub decreases-turns : goal.decreases-turns
decreases-turns g l = 2 * (20 - size_at (seen_of l.pass) (partition_of (hash_of l.key))) + (1 - one_if (is_some l.held))
