use Rattle.std.proofs.Common.{◌≡◌}
use Rattle.std.specs.Prelude.{None}
use Rattle.lock_book.specs.Shown.{number_of}
use Rattle.single_flight.specs.Shown.{Belongs, Asked, load_of}
use Rattle.single_flight.proofs.loader.Loader.wait.Given as goal

abbrev pub invariant-loop : goal.invariant-loop
invariant-loop g l = record {
  can_next : (goal.iterator-loop g).can_next l.iterator';
  finite : (goal.iterator-loop g).is_finite l.iterator';
  own : Belongs l.self l.pass;
  number : number_of l.pass ≡ number_of l.fn.pass;
  asked : Asked l.key l.fn.pass l.pass;
  free : load_of l.pass l.key ≡ None;
}
