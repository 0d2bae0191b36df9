use Rattle.std.proofs.Common.{ℕ, List, refl, subst, sym}
use Rattle.std.specs.FinMap as map
use Rattle.std.specs.List.{AllByRecursion}
use Rattle.agg_table.specs.Shown.{use_in}
use Rattle.scan_claim.specs.Shown.{blocks_of, draws_of}
use Rattle.worker_run.specs.Sent.{HasZeros, StoppedSending}
use Rattle.worker_run.specs.Steps.{Finishes}
use Rattle.worker_run.specs.Tabled.{IsAtWork, PassesMany}
use Rattle.worker_run.proofs.AtWork.{at_work-block, ends_finished, ends_given_up, ends_stopped, errors_ready, many_open, tuples_ready, zeros_added, zeros_kept}
use Rattle.worker_run.proofs.Seated.{stays_seated}
use Rattle.worker_run.proofs.worker.work_next.Goals as goal

-- ---- there are no more blocks

pub finish-requires-clause-errors_ready : goal.finish-requires-clause-errors_ready
finish-requires-clause-errors_ready g c = errors_ready c.args.job.now.plan.now c.args.job.now.rows.now (draws_of c.args.claim.now) c.args.groups.now c.args.errors.now.end c.args.tuples.now.end (use_in c.args.seat.now) c.requires.working

pub finish-requires-clause-ready : goal.finish-requires-clause-ready
finish-requires-clause-ready g c = tuples_ready c.args.job.now.plan.now c.args.job.now.rows.now (draws_of c.args.claim.now) c.args.groups.now c.args.errors.now.end c.args.tuples.now.end (use_in c.args.seat.now) c.requires.working

pub finish-requires-clause-zeros : goal.finish-requires-clause-zeros
finish-requires-clause-zeros g c =
    subst (λ n. AllByRecursion (HasZeros n) (map.entries c.args.groups.now)) (sym c.slots_of-slots.ensures.items)
    (zeros_kept c.args.job.now.plan.now c.args.job.now.rows.now (draws_of c.args.claim.now) c.args.groups.now c.args.errors.now.end c.args.tuples.now.end (use_in c.args.seat.now) c.requires.working)

pub returns-in_default-clause-hands : goal.returns-in_default-clause-hands
returns-in_default-clause-hands g c = record {
  seat = c.draw.ensures.seat.0;
  number = c.draw.ensures.seat.1;
  errors_kept = c.finish.ensures.errors_kept;
  tuples_kept = c.finish.ensures.tuples_kept;
  queues = c.finish.ensures.queues;
}

pub returns-in_default-clause-ended : goal.returns-in_default-clause-ended
returns-in_default-clause-ended g c =
    ends_finished c.args.job.now.plan.now c.args.job.now.rows.now (draws_of c.args.claim.now) c.args.groups.now c.args.errors.now.end c.args.tuples.now.end
    (blocks_of c.args.job.now.claims.now) (draws_of c.draw.new.claim) c.finish.new.errors.end c.finish.new.tuples.end (use_in c.args.seat.now) (use_in c.finish.new.seat) c.finish.result c.requires.job.blocks c.requires.working
    c.in_default.ensures.none c.in_default.ensures.spent
    (subst (λ n. Finishes n (use_in c.args.seat.now) (use_in c.finish.new.seat) c.args.groups.now c.args.errors.now.end c.args.tuples.now.end c.finish.new.errors.end c.finish.new.tuples.end c.finish.result) c.slots_of-slots.ensures.items c.finish.ensures.end)

-- ---- a block that was not added whole

pub give_up-requires-clause-ready : goal.give_up-requires-clause-ready
give_up-requires-clause-ready g c = errors_ready c.args.job.now.plan.now c.args.job.now.rows.now (draws_of c.args.claim.now) c.args.groups.now c.args.errors.now.end c.args.tuples.now.end (use_in c.args.seat.now) c.requires.working

pub returns-in-Err-clause-hands : goal.returns-in-Err-clause-hands
returns-in-Err-clause-hands g c = record {
  seat = c.draw.ensures.seat.0;
  number = c.draw.ensures.seat.1;
  errors_kept = c.give_up.ensures.kept;
  tuples_kept = refl;
  queues = record {
    errors_ring = c.give_up.ensures.ring;
    errors_stays = c.give_up.ensures.stays;
    tuples_ring = refl;
    tuples_stays = (tuples_ready c.args.job.now.plan.now c.args.job.now.rows.now (draws_of c.args.claim.now) c.args.groups.now c.args.errors.now.end c.args.tuples.now.end (use_in c.args.seat.now) c.requires.working).stays;
  };
}

pub returns-in-Err-clause-seat : goal.returns-in-Err-clause-seat
returns-in-Err-clause-seat g c = stays_seated c.args.job.now.region.now c.args.job.now.table.now c.args.seat.now c.requires.seat

pub returns-in-Err-clause-ended : goal.returns-in-Err-clause-ended
returns-in-Err-clause-ended g c =
    ends_given_up c.args.job.now.plan.now c.args.job.now.rows.now (draws_of c.args.claim.now) c.args.groups.now c.args.errors.now.end c.args.tuples.now.end
    (blocks_of c.args.job.now.claims.now) (draws_of c.draw.new.claim) c.in-Some.block c.args.groups.now c.add_block.new.self c.give_up.new.errors.end (use_in c.args.seat.now) c.in-Err.why c.give_up.result
    c.in-Some.ensures.drawn c.requires.working c.in-Err.ensures.stopped c.give_up.ensures.end

-- ---- the groups of a block

pub pass_many-requires-clause-ready : goal.pass_many-requires-clause-ready
pass_many-requires-clause-ready g c = tuples_ready c.args.job.now.plan.now c.args.job.now.rows.now (draws_of c.args.claim.now) c.args.groups.now c.args.errors.now.end c.args.tuples.now.end (use_in c.args.seat.now) c.requires.working

pub pass_many-requires-clause-zeros : goal.pass_many-requires-clause-zeros
pass_many-requires-clause-zeros g c =
    subst (λ n. AllByRecursion (HasZeros n) (map.entries c.add_block.new.self)) (sym c.slots_of-slots.ensures.items)
    (zeros_added c.args.job.now.plan.now c.args.job.now.rows.now (draws_of c.args.claim.now) c.args.groups.now c.args.errors.now.end c.args.tuples.now.end c.in-Some.block c.add_block.new.self (use_in c.args.seat.now) c.requires.working
    c.in_default-add_block.ensures.accepted c.in_default-add_block.ensures.added)

pub returns-then-not-pass_many-clause-hands : goal.returns-then-not-pass_many-clause-hands
returns-then-not-pass_many-clause-hands g c = record {
  seat = c.draw.ensures.seat.0;
  number = c.draw.ensures.seat.1;
  errors_kept = refl;
  tuples_kept = c.pass_many.ensures.kept;
  queues = record {
    errors_ring = refl;
    errors_stays = (errors_ready c.args.job.now.plan.now c.args.job.now.rows.now (draws_of c.args.claim.now) c.args.groups.now c.args.errors.now.end c.args.tuples.now.end (use_in c.args.seat.now) c.requires.working).stays;
    tuples_ring = c.if-not-pass_many.ensures.passed.found.ring;
    tuples_stays = c.if-not-pass_many.ensures.passed.found.stays;
  };
}

pub returns-then-not-pass_many-clause-ended : goal.returns-then-not-pass_many-clause-ended
returns-then-not-pass_many-clause-ended g c =
    ends_stopped c.args.job.now.plan.now c.args.job.now.rows.now (draws_of c.args.claim.now) c.args.groups.now c.args.errors.now.end c.args.tuples.now.end
    (blocks_of c.args.job.now.claims.now) (draws_of c.draw.new.claim) c.pass_many.new.tuples.end (use_in c.args.seat.now) (use_in c.pass_many.new.seat) c.requires.working
    (subst (λ n. StoppedSending n c.args.tuples.now.end c.pass_many.new.tuples.end) c.slots_of-slots.ensures.items c.if-not-pass_many.ensures.passed)

pub returns-clause-hands : goal.returns-clause-hands
returns-clause-hands g c =
    let stays = (tuples_ready c.args.job.now.plan.now c.args.job.now.rows.now (draws_of c.args.claim.now) c.args.groups.now c.args.errors.now.end c.args.tuples.now.end (use_in c.args.seat.now) c.requires.working).stays in
    let queue = many_open c.slots_of-slots.result (use_in c.args.seat.now) (use_in c.pass_many.new.seat) c.add_block.new.self c.pass_many.new.groups c.args.tuples.now.end c.pass_many.new.tuples.end stays c.if-not-pass_many.ensures.passed in
    record {
      seat = c.draw.ensures.seat.0;
      number = c.draw.ensures.seat.1;
      errors_kept = refl;
      tuples_kept = c.pass_many.ensures.kept;
      queues = record {
        errors_ring = refl;
        errors_stays = (errors_ready c.args.job.now.plan.now c.args.job.now.rows.now (draws_of c.args.claim.now) c.args.groups.now c.args.errors.now.end c.args.tuples.now.end (use_in c.args.seat.now) c.requires.working).stays;
        tuples_ring = queue.0;
        tuples_stays = queue.1;
      };
    }

pub returns-clause-working : goal.returns-clause-working
returns-clause-working g c =
    subst (λ (ds : List ℕ). IsAtWork c.args.job.now.plan.now c.args.job.now.rows.now ds (use_in c.pass_many.new.seat) c.pass_many.new.groups c.args.errors.now.end c.pass_many.new.tuples.end) (sym c.in-Some.ensures.drawn)
    (at_work-block c.args.job.now.plan.now c.args.job.now.rows.now (draws_of c.args.claim.now) c.args.groups.now c.args.errors.now.end c.args.tuples.now.end
    c.in-Some.block c.add_block.new.self c.pass_many.new.groups c.pass_many.new.tuples.end (use_in c.args.seat.now) (use_in c.pass_many.new.seat) c.requires.working
    c.in_default-add_block.ensures.accepted c.in_default-add_block.ensures.added
    (subst (λ n. PassesMany n (use_in c.args.seat.now) (use_in c.pass_many.new.seat) c.add_block.new.self c.pass_many.new.groups c.args.tuples.now.end c.pass_many.new.tuples.end) c.slots_of-slots.ensures.items
    c.if-not-pass_many.ensures.passed))

pub returns-clause-few : goal.returns-clause-few
returns-clause-few g c = c.if-not-pass_many.ensures.passed.few
