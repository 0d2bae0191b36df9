use Rattle.std.proofs.Common.{◌≡◌, map, take}
use Rattle.c_table.proofs.looking.write_words.Given as goal

abbrev pub invariant-loop-at : goal.invariant-loop-at
invariant-loop-at l = take l.at l.words ≡ map (λ e. e.state) (take l.at l.entries)
