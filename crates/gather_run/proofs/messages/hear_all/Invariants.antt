use Rattle.std.specs.List.{All, AllZip}
use Rattle.parallel_ctx.specs.Tokens.{SameQueues}
use Rattle.gather_run.specs.Looks.{IsOpen, OverSoFar, StaysLeading}
use Rattle.gather_run.proofs.messages.hear_all.Given as goal

abbrev pub invariant-loop-at : goal.invariant-loop-at
invariant-loop-at g l = record {
  open_are : All (IsOpen l.r) l.queues;
  same : AllZip SameQueues l.initial.queues l.queues;
  over : OverSoFar l.over l.queues l.at;
  leading : StaysLeading l.initial.queues l.queues l.initial.groups l.groups;
}
