use Rattle.std.proofs.Common.{All}
use Rattle.std.specs.List.{AllZip}
use Rattle.parallel_ctx.specs.Tokens.{SameQueues}
use Rattle.gather_merge.specs.Hearing.{AreOpen, HasGivenNoRow}
use Rattle.gather_merge.proofs.hearing.hear_early.Given as goal

abbrev pub invariant-loop-at : goal.invariant-loop-at
invariant-loop-at g l = record {
  same : AllZip SameQueues l.initial.queues l.queues;
  open_are : AreOpen l.r l.queues;
  unheard : All HasGivenNoRow l.queues;
}
