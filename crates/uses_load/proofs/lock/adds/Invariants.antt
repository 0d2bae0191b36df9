use Rattle.std.proofs.Common.{◌≡◌, length}
use Rattle.lock_book.specs.Shown.{Belongs, mine_of, number_of}
use Rattle.uses_load.proofs.lock.adds.Given as goal

abbrev pub invariant-loop : goal.invariant-loop
invariant-loop g l = record {
  own : Belongs l.shelf l.pass;
  number : number_of l.pass ≡ number_of l.fn.pass;
  added : length (mine_of l.pass 0) ≡ l.counter;
}
