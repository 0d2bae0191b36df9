use Rattle.std.proofs.Common.{◌≡◌, ◌<◌, ◌≤◌, ◌+◌, ◌*◌, ◌^◌, ℕ, length, slice_index, slice_index_or}
use Rattle.par_model.specs.PlanLayout.{unused}
use Rattle.par_model.specs.declared.plan.TheConstants.{MOST_PLACES}
use Rattle.plan_descriptor.specs.Descriptor.{column_word, kind_word}
use Rattle.plan_descriptor.proofs.reading.items.Given as goal

abbrev pub invariant-items : goal.invariant-items
invariant-items l = record {
  size : length l.items ≡ 8;
  kinds : (k : ℕ) → k < l.at → kind_word (slice_index_or l.items k unused).kind ≡ slice_index l.words (12 + 2 * k);
  columns : (k : ℕ) → k < l.at → column_word (slice_index_or l.items k unused).column (slice_index_or l.items k unused).places ≡ slice_index l.words (13 + 2 * k);
  narrow : (k : ℕ) → k < l.at → (slice_index_or l.items k unused).column < 2 ^ 32;
  places : (k : ℕ) → k < l.at → (slice_index_or l.items k unused).places ≤ MOST_PLACES;
}
