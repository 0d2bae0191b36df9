use Rattle.std.proofs.Common.{◌≡◌, false, []}
use Rattle.mq_handle.specs.Messages.{left_of}
use Rattle.uses_region.proofs.handles.send_all_in_parts.Given as goal

abbrev pub invariant-loop-number : goal.invariant-loop-number
invariant-loop-number g l = record {
  here : l.s.region ≡ l.r;
  stays : l.s.end.gone ≡ false;
  fresh : left_of l.s.end.put ≡ [];
}
