use Rattle.par_exchange.proofs.PlaceLaws.{Agree}
use Rattle.par_exchange.proofs.places.are_of.Given as goal

abbrev pub invariant-loop-k : goal.invariant-loop-k
invariant-loop-k g l = Agree l.k l.places l.marks
