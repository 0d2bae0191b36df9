use Rattle.std.specs.List.{All, AllZip}
use Rattle.parallel_ctx.specs.Tokens.{SameQueues}
use Rattle.gather_run.specs.Looks.{IsOpen, StaysLeading}
use Rattle.gather_run.proofs.messages.hear_out.Given as goal

abbrev pub invariant-loop : goal.invariant-loop
invariant-loop g l = record {
  can_next : (goal.iterator-loop g).can_next l.iterator';
  finite : (goal.iterator-loop g).is_finite l.iterator';
  open_are : All (IsOpen l.r) l.queues;
  same : AllZip SameQueues l.initial.queues l.queues;
  leading : StaysLeading l.initial.queues l.queues l.initial.groups l.groups;
}
