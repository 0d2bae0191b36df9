use Rattle.std.proofs.Common.{◌≡◌, ℕ, ◌+◌, ◌/◌, ◌<◌, Some}
use Rattle.word_map.specs.WordMap.{at, HasJust}
use Rattle.span_pools.proofs.marks.clear_marks.Given as goal

abbrev pub invariant-loop-n : goal.invariant-loop-n
invariant-loop-n l = record {
  here : l.marks.region ≡ l.fn.marks.region;
  bits : HasJust l.marks.words l.layout.marks ((l.layout.pages + 63) / 64);
  zeros : (k : ℕ) → k < l.n → at l.marks.words (l.layout.marks + k) ≡ Some 0;
}
