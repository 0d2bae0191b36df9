use Rattle.std.proofs.Common.{◌≡◌, take}
use Rattle.worker_run.specs.Sent.{IsReady}
use Rattle.gather_merge.specs.Sent.{HasSentRows}
use Rattle.gather_merge.proofs.sending.send_rows.Given as goal

abbrev pub invariant-loop-row : goal.invariant-loop-row
invariant-loop-row g l = record {
  kept : l.tuples ≡ record l.initial.tuples { end = l.tuples.end };
  ready : IsReady 8 l.tuples.end;
  sent : HasSentRows (take l.row-index l.list) l.initial.tuples.end l.tuples.end;
}
