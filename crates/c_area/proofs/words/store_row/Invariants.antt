use Rattle.c_area.proofs.Rows.{Stored}
use Rattle.c_area.proofs.words.store_row.Given as goal

abbrev pub invariant-loop-i : goal.invariant-loop-i
invariant-loop-i l = Stored l.initial.part l.part l.at l.i l.words
