use Rattle.agg_table.specs.Shown.{StaysSeated, use_in}
use Rattle.scan_claim.specs.Shown.{draws_of}
use Rattle.worker_run.specs.Job.{AreHands, IsSeated, KeepsHands}
use Rattle.worker_run.specs.Tabled.{IsAtWork}
use Rattle.worker_run.proofs.worker.work_all.Given as goal

abbrev pub invariant-loop : goal.invariant-loop
invariant-loop g l = record {
  can_next : (goal.iterator-loop g).can_next l.iterator';
  finite : (goal.iterator-loop g).is_finite l.iterator';
  hands : AreHands l.job l.claim l.errors l.tuples;
  kept : KeepsHands l.job l.initial.claim l.initial.errors l.initial.tuples l.claim l.errors l.tuples;
  seat : IsSeated l.job.region.now l.job.table.now l.seat;
  stays : StaysSeated l.job.table.now l.initial.seat l.seat;
  working : IsAtWork l.job.plan.now l.job.rows.now (draws_of l.claim) (use_in l.seat) l.groups l.errors.end l.tuples.end;
}
