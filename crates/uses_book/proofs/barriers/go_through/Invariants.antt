use Rattle.par_barrier.specs.Shown.{Belongs}
use Rattle.uses_book.proofs.barriers.go_through.Given as goal

abbrev pub invariant-loop : goal.invariant-loop
invariant-loop g l = Belongs l.barrier l.pass
