use Rattle.std.proofs.Common.{◌≡◌, ◌<◌, ℕ, get_or}
use Rattle.dshash_chunks.specs.Held.{contents}
use Rattle.page_cache.proofs.page.PagesChunkObject.work.Given as goal

abbrev pub invariant-loop-i : goal.invariant-loop-i
invariant-loop-i l = record {
  part : l.chunk.part ≡ l.fn.chunk.part;
  place : (l.chunk.at ≡ l.fn.chunk.at) × (l.chunk.bytes ≡ l.fn.chunk.bytes);
  read : (k : ℕ) → k < l.i → get_or l.word-items k 0 ≡ get_or (contents l.fn.chunk) k 0;
}
