use Rattle.std.proofs.Common.{◌≡◌, false}
use Rattle.uses_region.proofs.handles.receive_all.Given as goal

abbrev pub invariant-loop-number : goal.invariant-loop-number
invariant-loop-number g l = record {
  here : l.q.region ≡ l.r;
  stays : l.q.end.gone ≡ false;
}
