use Rattle.std.proofs.Common.{◌≡◌, ◌<◌, ◌+◌, ◌*◌, ◌^◌, ℕ, FitsSigned, Some, slice_index_or, w64}
use Rattle.std.specs.Option.{ForSome}
use Rattle.par_model.specs.PlanLayout.{unused}
use Rattle.plan_descriptor.specs.Descriptor.{filter_of, plan_word}
use Rattle.word_map.specs.WordMap.{at as word_at}
use Rattle.plan_descriptor.proofs.write_plan.Given as goal

abbrev pub invariant-words : goal.invariant-words
invariant-words l = record {
  stored : (k : ℕ) → k < l.place → word_at l.chunk.part.words (l.chunk.at + k) ≡ Some (plan_word 2 l.plan k);
  narrow : (k : ℕ) → k < l.place → k < 12 → plan_word 2 l.plan k < 2 ^ 32;
  columns : (i : ℕ) → 12 + 2 * i < l.place → i < 8 → (slice_index_or l.plan.items i unused).column < 2 ^ 32;
  value : 28 < l.place → ForSome (filter_of l.plan) (λ filter. (filter.column < 2 ^ 32) × FitsSigned w64 filter.value);
  place : l.chunk.at ≡ l.initial.chunk.at;
  bytes : l.chunk.bytes ≡ l.initial.chunk.bytes;
  region : l.chunk.part.region ≡ l.initial.chunk.part.region;
}
