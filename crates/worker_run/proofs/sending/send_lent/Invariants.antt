use Rattle.std.proofs.Common.{◌≡◌, ◌-◌, drop, replicate, take}
use Rattle.par_model.specs.Aggregate.{no_values}
use Rattle.worker_run.specs.Sent.{HasSentThese, IsReady, pairs_of}
use Rattle.tuple_codec.specs.declared.write.TheConstants.{TUPLE_BYTES}
use Rattle.worker_run.proofs.sending.send_lent.Given as goal

abbrev pub invariant-loop-at : goal.invariant-loop-at
invariant-loop-at g l = record {
  kept : l.tuples ≡ record l.initial.tuples { end = l.tuples.end };
  ready : IsReady TUPLE_BYTES l.tuples.end;
  rest : drop l.slots l.state.slots ≡ replicate (8 - l.slots) no_values;
  these : HasSentThese l.slots (take l.at (pairs_of l.groups)) l.initial.tuples.end l.tuples.end;
}
