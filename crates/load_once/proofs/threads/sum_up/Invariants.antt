use Rattle.std.proofs.Common.{◌≡◌, ℕ}
use Rattle.std.specs.Prelude.{None}
use Rattle.single_flight.specs.Shown.{Belongs, load_of}
use Rattle.load_once.specs.Squares.{squares_below}
use Rattle.load_once.proofs.threads.sum_up.Given as goal

abbrev pub invariant-loop-key : goal.invariant-loop-key
invariant-loop-key g l = record {
  own : Belongs l.loader l.pass;
  free : (k : ℕ) → load_of l.pass k ≡ None;
  sum : l.work.sum ≡ squares_below l.key;
}
