use Rattle.std.proofs.Common.{◌≡◌, ℕ, ◌*◌, ◌<◌, Some, true}
use Rattle.word_map.specs.WordMap.{at}
use Rattle.span_pools.specs.Places.{record_at}
use Rattle.span_pools.specs.View.{mark_of}
use Rattle.span_pools.proofs.find.find_free.Given as goal

abbrev pub invariant-loop-n : goal.invariant-loop-n
invariant-loop-n l = record {
  marks : l.marks ≡ l.fn.marks;
  records : l.records ≡ l.fn.records;
  none : (p : ℕ) → p < 64 * l.n → mark_of l.layout l.fn.marks.words p ≡ true → at l.fn.records.words (record_at l.layout p) ≡ Some 0;
}
