use Rattle.std.proofs.Common.{◌≡◌, ◌≤◌, false}
use Rattle.uses_start.specs.Sharing.{AreOf}
use Rattle.uses_start.proofs.threads.receive_and_get.Given as goal

-- what a loop over receives and finds keeps
abbrev pub invariant-loop : goal.invariant-loop
invariant-loop g l = record {
  own : AreOf l.shared l.own;
  here : l.q.region ≡ l.shared.region;
  same : (l.q.region ≡ l.fn.q.region) × (l.q.end.ring ≡ l.fn.q.end.ring);
  stays : l.q.end.gone ≡ false;
  few : l.found ≤ l.counter;
}
