use Rattle.std.specs.List.{AllZip}
use Rattle.parallel_ctx.specs.Tokens.{SameQueues}
use Rattle.gather_merge.specs.Hearing.{AreOpen}
use Rattle.gather_merge.proofs.Asked.{HeardTo}
use Rattle.gather_merge.proofs.hearing.hear_all.Given as goal

-- the workers so far
abbrev pub invariant-loop-worker : goal.invariant-loop-worker
invariant-loop-worker g l = record {
  same : AllZip SameQueues l.initial.queues l.queues;
  open_are : AreOpen l.r l.queues;
  heard : HeardTo l.initial.list.items l.list.items l.queues l.worker;
}
