use Rattle.std.proofs.Common.{◌≡◌, map, take, length}
use Rattle.dshash_core.specs.Cells.{entry_of, all_items}
use Rattle.dshash_core.specs.Listing.{pairs_of}
use Rattle.dshash_core.proofs.entries.list_chains.Given as goal

-- the chains of the buckets so far are listed
abbrev pub invariant-loop-bucket : goal.invariant-loop-bucket
invariant-loop-bucket g l = record {
  same : l.buckets ≡ l.fn.buckets;
  entries : pairs_of l.entries.items ≡ map (entry_of g.O.CellObject.decoded) (all_items (take l.bucket l.fn.buckets.chains));
  long : length l.buffer ≡ length l.fn.buffer;
}
