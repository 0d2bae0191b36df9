use Rattle.std.proofs.Common.{◌≡◌, ℕ, ◌+◌, ◌<◌, Some, get_or}
use Rattle.word_map.specs.WordMap.{at}
use Rattle.c_area.proofs.words.load_row.Given as goal

abbrev pub invariant-loop-i : goal.invariant-loop-i
invariant-loop-i l = record {
  same : l.part ≡ l.initial.part;
  found : (k : ℕ) → k < l.i → at l.initial.part.words (l.at + k) ≡ Some (get_or l.out k 0);
}
