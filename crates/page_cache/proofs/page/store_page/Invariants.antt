use Rattle.std.proofs.Common.{◌≡◌}
use Rattle.dshash_core.proofs.Chains.{Stored}
use Rattle.page_cache.proofs.page.store_page.Given as goal

abbrev pub invariant-loop-i : goal.invariant-loop-i
invariant-loop-i l = record {
  stored : Stored l.fn.chunk.part l.chunk.part l.fn.chunk.at l.i l.page.words;
  place : (l.chunk.at ≡ l.fn.chunk.at) × (l.chunk.bytes ≡ l.fn.chunk.bytes);
}
