use Rattle.std.proofs.Common.{◌≡◌, length}
use Rattle.lock_book.specs.Shown.{IsTurn, calls_in, place_in}
use Rattle.uses_book.specs.Counting.{total_of}
use Rattle.uses_book.proofs.batch.add_in_one_turn.Given as goal

abbrev pub invariant-loop : goal.invariant-loop
invariant-loop g l = record {
  turn : IsTurn l.shelf l.fn.pass l.turn;
  place : place_in l.turn ≡ 0;
  count : length (calls_in l.turn) ≡ l.counter;
  total : total_of (calls_in l.turn) ≡ l.counter;
}
