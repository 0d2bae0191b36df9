use Rattle.std.proofs.Common.{◌≡◌}
use Rattle.par_barrier.specs.Shown.{Belongs, number_of}
use Rattle.uses_book.proofs.turns.first_wrong.Given as goal

abbrev pub invariant-loop-at : goal.invariant-loop-at
invariant-loop-at g l = record {
  zero : Belongs l.barrier l.zero × (number_of l.zero ≡ number_of l.fn.zero);
  one : Belongs l.barrier l.one × (number_of l.one ≡ number_of l.fn.one);
}
