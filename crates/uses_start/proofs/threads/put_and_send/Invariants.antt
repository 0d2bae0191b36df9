use Rattle.std.proofs.Common.{◌≡◌, false, []}
use Rattle.mq_handle.specs.Messages.{left_of}
use Rattle.uses_start.specs.Sharing.{AreOf}
use Rattle.uses_start.proofs.threads.put_and_send.Given as goal

-- what a loop over calls of the table and sends keeps
abbrev pub invariant-loop-number : goal.invariant-loop-number
invariant-loop-number g l = record {
  own : AreOf l.shared l.own;
  here : l.s.region ≡ l.shared.region;
  same : (l.s.region ≡ l.fn.s.region) × (l.s.end.ring ≡ l.fn.s.end.ring);
  stays : l.s.end.gone ≡ false;
  fresh : left_of l.s.end.put ≡ [];
}
