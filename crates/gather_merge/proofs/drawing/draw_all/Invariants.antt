use Rattle.std.proofs.Common.{◌≡◌, All}
use Rattle.std.specs.List.{AllZip}
use Rattle.parallel_ctx.specs.Tokens.{SameQueues}
use Rattle.scan_claim.specs.Shown.{Belongs, number_of}
use Rattle.gather_merge.specs.Drawn.{HasDrawn}
use Rattle.gather_merge.specs.Hearing.{AreOpen, HasGivenNoRow}
use Rattle.gather_merge.proofs.drawing.draw_all.Given as goal

abbrev pub invariant-loop : goal.invariant-loop
invariant-loop g l = record {
  can_next : (goal.iterator-loop g).can_next l.iterator';
  finite : (goal.iterator-loop g).is_finite l.iterator';
  seat : Belongs l.job.claims.now l.claim;
  number : number_of l.claim ≡ number_of l.initial.claim;
  drawn : HasDrawn l.job.plan.now l.job.rows.now l.job.claims.now l.claim l.list.items;
  same : AllZip SameQueues l.initial.queues l.queues;
  open_are : AreOpen l.job.region.now l.queues;
  unheard : All HasGivenNoRow l.queues;
}
