use Rattle.dshash_chunks.specs.Held.{stepped}
use Rattle.std.proofs.Common.{◌≡◌, ℕ, ◌<◌, ◌≤◌}
use Rattle.lock_book.specs.Shown.{Belongs, number_of, seen_of}
use Rattle.dsa_area.specs.Shown as area
use Rattle.dshash_parts.specs.Tables.{size_at}
use Rattle.chunk_table.specs.Tables.{sight_of}
use Rattle.dshash_parts.specs.Sweeps.{Swept}
use Rattle.chunk_table.proofs.growing.grow_all.Given as goal

abbrev pub invariant-loop-number : goal.invariant-loop-number
invariant-loop-number g l = record {
  own : Belongs l.table.shelf l.pass;
  caller : number_of l.pass ≡ number_of l.fn.pass;
  area_own : area.Belongs l.area l.apass;
  area_caller : area.number_of l.apass ≡ area.number_of l.fn.apass;
  grows : (k : ℕ) → k < 128 → size_at (seen_of l.fn.pass) k ≤ size_at (seen_of l.pass) k;
  large : (k : ℕ) → k < l.number → l.size ≤ size_at (seen_of l.pass) k;
  swept : Swept (stepped g.W.ChunkObject.worked) l.area (number_of l.fn.pass) l.size l.number (sight_of l.fn.pass l.fn.apass) (sight_of l.pass l.apass);
}
