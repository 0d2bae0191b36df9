use Rattle.std.proofs.Common.{◌≡◌, ℕ}
use Rattle.std.specs.Prelude.{None}
use Rattle.lock_book.specs.Shown.{number_of}
use Rattle.single_flight.specs.Shown.{Belongs, load_of}
use Rattle.load_once.proofs.threads.square.Given as goal

abbrev pub invariant-loop : goal.invariant-loop
invariant-loop g l = record {
  can_next : (goal.iterator-loop g).can_next l.iterator';
  finite : (goal.iterator-loop g).is_finite l.iterator';
  own : Belongs l.loader l.pass;
  number : number_of l.pass ≡ number_of l.fn.pass;
  free : (k : ℕ) → load_of l.pass k ≡ None;
  sum : l.work.sum ≡ l.fn.work.sum;
}
