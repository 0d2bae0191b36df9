use Rattle.std.proofs.Common.{◌≡◌}
use Rattle.uses_rows.proofs.descriptors.store_words.Given as goal

abbrev pub invariant-words : goal.invariant-words
invariant-words l = record {
  place : l.chunk.at ≡ l.initial.chunk.at;
  bytes : l.chunk.bytes ≡ l.initial.chunk.bytes;
  region : l.chunk.part.region ≡ l.initial.chunk.part.region;
}
