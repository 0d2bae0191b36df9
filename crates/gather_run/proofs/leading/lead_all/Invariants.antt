use Rattle.std.proofs.Common.{◌≡◌, map}
use Rattle.std.specs.List.{All, AllZip}
use Rattle.agg_table.specs.Shown.{StaysSeated, use_in}
use Rattle.parallel_ctx.specs.Tokens.{SameQueues}
use Rattle.scan_claim.specs.Shown.{Belongs, draws_of, number_of}
use Rattle.worker_run.specs.Job.{IsSeated}
use Rattle.gather_run.specs.Leading.{DrawsInOrder, IsKeeping}
use Rattle.gather_run.specs.Looks.{IsOpen, tuples_of}
use Rattle.gather_run.proofs.leading.lead_all.Given as goal

abbrev pub invariant-loop : goal.invariant-loop
invariant-loop g l = record {
  can_next : (goal.iterator-loop g).can_next l.iterator';
  finite : (goal.iterator-loop g).is_finite l.iterator';
  claim : Belongs l.job.claims.now l.claim;
  in_order : DrawsInOrder l.job.claims.now l.claim;
  number : number_of l.claim ≡ number_of l.initial.claim;
  seat : IsSeated l.job.region.now l.job.table.now l.seat;
  stays : StaysSeated l.job.table.now l.initial.seat l.seat;
  open_are : All (IsOpen l.job.region.now) l.queues;
  same : AllZip SameQueues l.initial.queues l.queues;
  leading : IsKeeping l.job.plan.now l.job.rows.now (draws_of l.claim) (use_in l.seat) (map tuples_of l.queues) l.kept l.groups;
}
