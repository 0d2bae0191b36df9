use Rattle.std.proofs.Common.{List, ℕ, subst, sym}
use Rattle.agg_table.specs.Shown.{use_in}
use Rattle.worker_run.specs.Tabled.{IsAtWork}
use Rattle.worker_run.proofs.AtWork.{at_work-start}
use Rattle.worker_run.proofs.Hands.{hands_then, keeps_fresh, keeps_through}
use Rattle.worker_run.proofs.Seated.{seated_at_first, seated_then, stays_seated, stays_through}
use Rattle.tuple_codec.specs.declared.write.TheConstants.{TUPLE_BYTES}
use Rattle.worker_run.proofs.worker.work_all.Goals as goal

pub loop-init : goal.loop-init
loop-init g c =
    let job = c.args.job.now in
    let seated = seated_at_first job.region.now job.number job.table.now c.args.seat.now c.requires.seat in
    record {
      can_next = tt;
      finite = tt;
      hands = c.requires.hands.hands;
      kept = keeps_fresh job TUPLE_BYTES c.args.claim.now c.args.errors.now c.args.tuples.now c.requires.hands;
      seat = seated;
      stays = stays_seated job.region.now job.table.now c.args.seat.now seated;
      working = subst (λ (ds : List ℕ). IsAtWork job.plan.now job.rows.now ds (use_in c.args.seat.now) c.new-groups.result c.args.errors.now.end c.args.tuples.now.end) (sym c.requires.hands.fresh)
          (at_work-start job.plan.now job.rows.now job.region.now job.number job.table.now c.args.seat.now c.new-groups.result c.args.errors.now.end c.args.tuples.now.end c.requires.seat c.new-groups.ensures.empty c.requires.hands.errors_fresh
          c.requires.hands.tuples_fresh);
    }

pub loop-preserved : goal.loop-preserved
loop-preserved g c =
    let job = c.args.job.now in
    let now = c.loop.invariant in
    record {
      can_next = tt;
      finite = tt;
      hands = hands_then job c.loop.claim c.work_next.new.claim c.loop.errors c.work_next.new.errors c.loop.tuples c.work_next.new.tuples now.hands c.work_next.ensures.hands;
      kept = keeps_through job c.args.claim.now c.loop.claim c.work_next.new.claim c.args.errors.now c.loop.errors c.work_next.new.errors c.args.tuples.now c.loop.tuples c.work_next.new.tuples now.kept c.work_next.ensures.hands;
      seat = seated_then job.region.now job.table.now c.loop.seat c.work_next.new.seat now.seat c.work_next.ensures.seat;
      stays = stays_through job.table.now c.args.seat.now c.loop.seat c.work_next.new.seat now.stays c.work_next.ensures.seat;
      working = c.in_default.ensures.working;
    }

pub returns-in-Some-work_next-clause-hands : goal.returns-in-Some-work_next-clause-hands
returns-in-Some-work_next-clause-hands g c =
    keeps_through c.args.job.now c.args.claim.now c.loop.claim c.work_next.new.claim c.args.errors.now c.loop.errors c.work_next.new.errors c.args.tuples.now c.loop.tuples c.work_next.new.tuples c.loop.invariant.kept c.work_next.ensures.hands

pub returns-in-Some-work_next-clause-seat : goal.returns-in-Some-work_next-clause-seat
returns-in-Some-work_next-clause-seat g c = stays_through c.args.job.now.table.now c.args.seat.now c.loop.seat c.work_next.new.seat c.loop.invariant.stays c.work_next.ensures.seat
