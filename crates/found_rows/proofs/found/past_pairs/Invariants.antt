use Rattle.std.proofs.Common.{◌≡◌, ◌<◌, ◌≤◌, ◌-◌, ℕ, length, slice_index}
use Rattle.found_rows.specs.Closing.{LeavesOpen}
use Rattle.found_rows.specs.Masks.{IsBlock}
use Rattle.found_rows.proofs.found.past_pairs.Given as goal

abbrev pub invariant-pairs : goal.invariant-pairs
invariant-pairs l = record {
  low : l.first ≤ l.quote;
  high : l.quote ≤ length l.text;
  is : l.quote < length l.text → slice_index l.text l.quote ≡ 34;
  block : IsBlock l.text l.block;
  reached : l.block.base ≤ l.quote;
  paired : (start : ℕ) → start ≤ l.first → LeavesOpen l.text start l.first → LeavesOpen l.text start l.quote;
}

abbrev pub decreases-pairs : goal.decreases-pairs
decreases-pairs l = length l.text - l.quote
