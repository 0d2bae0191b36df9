use Rattle.std.proofs.Common.{◌≤◌}
use Rattle.page_cache.specs.Seats.{StaysSeat}
use Rattle.page_cache.proofs.threads.work.Given as goal

abbrev pub invariant-loop-number : goal.invariant-loop-number
invariant-loop-number g l = record {
  seat : StaysSeat l.cache l.fn.seat l.seat;
  few : l.good ≤ l.number;
}
