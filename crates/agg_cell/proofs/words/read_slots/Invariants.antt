use Rattle.std.proofs.Common.{◌≡◌, ◌<◌, ℕ, get_or, length}
use Rattle.par_model.specs.Aggregate.{no_values}
use Rattle.agg_cell.specs.StateWords.{slot_at, slot_start}
use Rattle.agg_cell.proofs.words.read_slots.Given as goal

abbrev pub invariant-loop-i : goal.invariant-loop-i
invariant-loop-i l = record {
  long : length l.slots ≡ 8;
  filled : (k : ℕ) → k < l.i → get_or l.slots k no_values ≡ slot_at l.words (slot_start k);
}
