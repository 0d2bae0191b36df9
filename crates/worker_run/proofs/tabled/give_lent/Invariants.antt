use Rattle.std.proofs.Common.{◌≡◌, ◌-◌, drop, replicate, take}
use Rattle.agg_table.specs.Shown.{Grew, IsSeat, use_of}
use Rattle.par_model.specs.Aggregate.{no_values}
use Rattle.worker_run.specs.Sent.{IsReady, pairs_of}
use Rattle.worker_run.specs.Tabled.{GivesGroups}
use Rattle.tuple_codec.specs.declared.write.TheConstants.{TUPLE_BYTES}
use Rattle.worker_run.proofs.tabled.give_lent.Given as goal

abbrev pub invariant-loop-at : goal.invariant-loop-at
invariant-loop-at g l = record {
  seat : IsSeat l.part l.seat;
  grew : Grew l.initial.seat l.seat;
  kept : l.tuples ≡ record l.initial.tuples { end = l.tuples.end };
  ready : IsReady TUPLE_BYTES l.tuples.end;
  rest : drop l.slots l.state.slots ≡ replicate (8 - l.slots) no_values;
  gives : GivesGroups l.slots (take l.at (pairs_of l.groups)) (use_of l.initial.seat) (use_of l.seat) l.initial.tuples.end l.tuples.end;
}
