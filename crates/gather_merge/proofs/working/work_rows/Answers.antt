use Rattle.std.proofs.Common.{◌∙◌, List, ℕ, refl, subst}
use Rattle.partial_agg.specs.declared.map.BlockAnswer.TheVariants.{Memory}
use Rattle.worker_run.specs.declared.WorkerEnd.TheVariants.{NoMemory}
use Rattle.worker_run.proofs.Working.{fresh_ready, fresh_silent}
use Rattle.gather_merge.specs.Drawn.{Met}
use Rattle.gather_merge.specs.Ended.{Finishes}
use Rattle.gather_merge.specs.Hearing.{HasGivenNoRow, IsOpen}
use Rattle.gather_merge.proofs.Drawn.{drawn_none}
use Rattle.gather_merge.proofs.Ends.{has_finished, has_given_up}
use Rattle.gather_merge.proofs.Stopping.{met_alone, none_all}
use Rattle.gather_merge.proofs.working.work_rows.Goals as goal

pub draw_all-requires-clause-drawn : goal.draw_all-requires-clause-drawn
draw_all-requires-clause-drawn g c = drawn_none c.args.job.now.plan.now c.args.job.now.rows.now c.args.job.now.claims.now c.args.claim.now c.new-list.result.items c.requires.hands.fresh c.new-list.ensures.items

pub draw_all-requires-clause-open : goal.draw_all-requires-clause-open
draw_all-requires-clause-open g c = none_all (IsOpen c.args.job.now.region.now) c.deref_mut.result.now (c.deref_mut.ensures.value ∙ c.new-nobody.ensures.items)

pub draw_all-requires-clause-unheard : goal.draw_all-requires-clause-unheard
draw_all-requires-clause-unheard g c = none_all HasGivenNoRow c.deref_mut.result.now (c.deref_mut.ensures.value ∙ c.new-nobody.ensures.items)

pub give_up-requires-clause-ready : goal.give_up-requires-clause-ready
give_up-requires-clause-ready g c = fresh_ready c.args.job.now.plan.now c.args.job.now.rows.now 14 c.args.errors.now.end c.requires.hands.errors_fresh

pub finish-requires-clause-errors_ready : goal.finish-requires-clause-errors_ready
finish-requires-clause-errors_ready g c = fresh_ready c.args.job.now.plan.now c.args.job.now.rows.now 14 c.args.errors.now.end c.requires.hands.errors_fresh

pub finish-requires-clause-ready : goal.finish-requires-clause-ready
finish-requires-clause-ready g c = fresh_ready c.args.job.now.plan.now c.args.job.now.rows.now 8 c.args.tuples.now.end c.requires.hands.tuples_fresh

pub returns-in-Some-clause-hands : goal.returns-in-Some-clause-hands
returns-in-Some-clause-hands g c = record {
  seat = c.draw_all.ensures.seat.0;
  number = c.draw_all.ensures.seat.1;
  errors_kept = c.give_up.ensures.kept;
  tuples_kept = refl;
  queues = record { errors_ring = c.give_up.ensures.ring; errors_stays = c.give_up.ensures.stays; tuples_ring = refl; tuples_stays = c.requires.hands.tuples_fresh.stays };
}

pub returns-in-Some-clause-ended : goal.returns-in-Some-clause-ended
returns-in-Some-clause-ended g c =
    let plan = c.args.job.now.plan.now in
    let records = c.args.job.now.rows.now in
    let claims = c.args.job.now.claims.now in
    let met : Met plan records claims c.draw_all.new.claim c.in-Some.why =
    met_alone plan records claims c.draw_all.new.claim c.deref_mut.result.now c.draw_all.new.queues c.in-Some.why (c.deref_mut.ensures.value ∙ c.new-nobody.ensures.items) c.draw_all.ensures.same c.in-Some.ensures.drawn in
    has_given_up plan records claims c.draw_all.new.claim c.args.errors.now.end c.args.tuples.now.end c.give_up.new.errors.end c.in-Some.why c.give_up.result met
    (fresh_silent plan records 14 c.args.errors.now.end c.requires.hands.errors_fresh) (fresh_silent plan records 8 c.args.tuples.now.end c.requires.hands.tuples_fresh) c.give_up.ensures.end

pub returns-clause-hands : goal.returns-clause-hands
returns-clause-hands g c = record {
  seat = c.draw_all.ensures.seat.0;
  number = c.draw_all.ensures.seat.1;
  errors_kept = c.finish.ensures.errors_kept;
  tuples_kept = c.finish.ensures.tuples_kept;
  queues = c.finish.ensures.queues;
}

pub returns-clause-ended : goal.returns-clause-ended
returns-clause-ended g c =
    let plan = c.args.job.now.plan.now in
    let records = c.args.job.now.rows.now in
    let e = c.args.errors.now.end in
    let t = c.args.tuples.now.end in
    has_finished plan records c.args.job.now.claims.now c.draw_all.new.claim c.draw_all.new.list.items c.sort_rows.new.list.items e t c.finish.new.errors.end c.finish.new.tuples.end c.finish.result c.in_default.ensures.drawn
    c.in-Ok.ensures.permutation c.in-Ok.ensures.sorted (fresh_silent plan records 14 e c.requires.hands.errors_fresh) (fresh_silent plan records 8 t c.requires.hands.tuples_fresh)
    (subst (λ (rows : List ℕ). Finishes rows e t c.finish.new.errors.end c.finish.new.tuples.end c.finish.result) c.deref.ensures.value c.finish.ensures.end)

pub returns-in_default-sort_rows-clause-hands : goal.returns-in_default-sort_rows-clause-hands
returns-in_default-sort_rows-clause-hands g c = record {
  seat = c.draw_all.ensures.seat.0;
  number = c.draw_all.ensures.seat.1;
  errors_kept = refl;
  tuples_kept = refl;
  queues = record { errors_ring = refl; errors_stays = c.requires.hands.errors_fresh.stays; tuples_ring = refl; tuples_stays = c.requires.hands.tuples_fresh.stays };
}

pub returns-in_default-sort_rows-clause-ended : goal.returns-in_default-sort_rows-clause-ended
returns-in_default-sort_rows-clause-ended g c =
    let plan = c.args.job.now.plan.now in
    let records = c.args.job.now.rows.now in
    let e = c.args.errors.now.end in
    has_given_up plan records c.args.job.now.claims.now c.draw_all.new.claim e c.args.tuples.now.end e Memory NoMemory tt
    (fresh_silent plan records 14 e c.requires.hands.errors_fresh) (fresh_silent plan records 8 c.args.tuples.now.end c.requires.hands.tuples_fresh) (refl, refl)
