use Rattle.std.proofs.Common.{◌≡◌, ◌*◌, All, length, map, take}
use Rattle.std.specs.List.{concat}
use Rattle.agg_cell.specs.StateWords.{IsSlot, slot_words}
use Rattle.agg_cell.proofs.words.write_slots.Given as goal

abbrev pub invariant-loop-i : goal.invariant-loop-i
invariant-loop-i l = record {
  long : length l.slots ≡ 8;
  written : take (5 * l.i) l.words ≡ concat (map slot_words (take l.i l.slots));
  numbers : All IsSlot (take l.i l.slots);
}
