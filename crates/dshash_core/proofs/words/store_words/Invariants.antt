use Rattle.dshash_core.proofs.Chains.{Stored}
use Rattle.dshash_core.proofs.words.store_words.Given as goal

abbrev pub invariant-loop-i : goal.invariant-loop-i
invariant-loop-i l = Stored l.initial.part l.part l.at l.i l.words
