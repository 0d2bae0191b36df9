use Rattle.std.proofs.Common.{◌≡◌, ℕ, ◌+◌, ◌<◌, Some}
use Rattle.std.specs.Int.{bit_at}
use Rattle.word_map.specs.WordMap.{at}
use Rattle.span_pools.specs.Places.{record_at}
use Rattle.span_pools.proofs.find.find_in_word.Given as goal

abbrev pub invariant-loop-bit : goal.invariant-loop-bit
invariant-loop-bit l = record {
  same : l.records ≡ l.fn.records;
  none : (b : ℕ) → b < l.bit → bit_at l.word b ≡ 1 → at l.fn.records.words (record_at l.layout (l.from + b)) ≡ Some 0;
}
