use Rattle.std.proofs.Common.{◌≡◌, map}
use Rattle.std.specs.List.{All, AllWithin, AllZip}
use Rattle.parallel_ctx.specs.Accounts.{heard}
use Rattle.parallel_ctx.specs.Tokens.{AreHere, AreLeftByLead, SameQueues}
use Rattle.parallel_ctx.proofs.scope.leave_all.Given as goal

abbrev pub invariant-loop-at : goal.invariant-loop-at
invariant-loop-at l = record {
  here : All (AreHere l.r) l.queues;
  left : AllWithin AreLeftByLead l.queues 0 l.at;
  same : AllZip SameQueues l.initial.queues l.queues;
  heard : map heard l.queues ≡ map heard l.initial.queues;
}
