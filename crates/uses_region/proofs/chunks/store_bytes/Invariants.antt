use Rattle.std.proofs.Common.{◌≡◌, ℕ, ◌+◌, ◌<◌, Some}
use Rattle.word_map.specs.WordMap.{at as word_at}
use Rattle.rel_pointer.specs.Bytes.{packed}
use Rattle.uses_region.proofs.chunks.store_bytes.Given as goal

abbrev pub invariant-loop-n : goal.invariant-loop-n
invariant-loop-n l = record {
  here : l.chunk.part.region ≡ l.r;
  place : l.chunk.at ≡ l.fn.chunk.at;
  bytes : l.chunk.bytes ≡ l.fn.chunk.bytes;
  stored : (n : ℕ) → n < l.n → word_at l.chunk.part.words (l.chunk.at + n) ≡ Some (packed l.bytes n);
}
