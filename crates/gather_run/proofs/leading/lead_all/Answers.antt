use Rattle.std.proofs.Common.{◌≡◌, ◌∙◌, suc, length, map, refl, ap}
use Rattle.agg_table.specs.Shown.{use_in}
use Rattle.scan_claim.specs.Shown.{blocks_of, callers_of, draws_of}
use Rattle.parallel_ctx.specs.Tokens.{SameQueues}
use Rattle.parallel_ctx.proofs.Zips.{AllZip-length}
use Rattle.parallel_ctx.proofs.Queues.{all-same}
use Rattle.worker_run.proofs.Seated.{seated_then, stays_seated, stays_through}
use Rattle.gather_run.specs.Looks.{tuples_of}
use Rattle.gather_run.proofs.Looking.{all-trans, led_failed, led_out}
use Rattle.gather_run.proofs.Parts.{keeping_none}
use Rattle.gather_run.proofs.leading.lead_all.Goals as goal

pub loop-init : goal.loop-init
loop-init g c = record {
  can_next = tt;
  finite = tt;
  claim = c.requires.claim.0;
  in_order = c.requires.claim.1;
  number = refl;
  seat = c.requires.seat;
  stays = stays_seated c.args.job.now.region.now c.args.job.now.table.now c.args.seat.now c.requires.seat;
  open_are = c.requires.queues;
  same = all-same c.args.queues.now;
  leading = keeping_none c.args.job.now.plan.now c.args.job.now.rows.now (draws_of c.args.claim.now) (use_in c.args.seat.now) (map tuples_of c.args.queues.now) c.new-kept.result c.args.groups.now c.requires.leading c.new-kept.ensures.empty;
}

pub loop-preserved : goal.loop-preserved
loop-preserved g c = record {
  can_next = tt;
  finite = tt;
  claim = c.lead_next.ensures.claim.0;
  in_order = c.lead_next.ensures.in_order;
  number = c.lead_next.ensures.claim.1 ∙ c.loop.invariant.number;
  seat = seated_then c.args.job.now.region.now c.args.job.now.table.now c.loop.seat c.lead_next.new.seat c.loop.invariant.seat c.lead_next.ensures.seat;
  stays = stays_through c.args.job.now.table.now c.args.seat.now c.loop.seat c.lead_next.new.seat c.loop.invariant.stays c.lead_next.ensures.seat;
  open_are = c.lead_next.ensures.«open»;
  same = all-trans c.args.queues.now c.loop.queues c.lead_next.new.queues c.loop.invariant.same c.lead_next.ensures.same;
  leading = c.in-Next.ensures.step;
}

pub returns-in-NoMore-clause-same : goal.returns-in-NoMore-clause-same
returns-in-NoMore-clause-same g c =
    all-trans c.args.queues.now c.lead_next.new.queues c.hear_out.new.queues
    (all-trans c.args.queues.now c.loop.queues c.lead_next.new.queues c.loop.invariant.same c.lead_next.ensures.same) c.hear_out.ensures.same

pub returns-in-NoMore-clause-led : goal.returns-in-NoMore-clause-led
returns-in-NoMore-clause-led g c =
    let s = c.in-NoMore.ensures.step in
    led_out c.args.job.now.plan.now c.args.job.now.rows.now (blocks_of c.args.job.now.claims.now) (draws_of c.lead_next.new.claim) (use_in c.lead_next.new.seat) c.lead_next.new.queues c.hear_out.new.queues c.lead_next.new.groups c.hear_out.new.groups c.hear_out.result s.0 s.1
    c.hear_out.ensures.heard

pub returns-in-Failed-clause-same : goal.returns-in-Failed-clause-same
returns-in-Failed-clause-same g c = all-trans c.args.queues.now c.loop.queues c.lead_next.new.queues c.loop.invariant.same c.lead_next.ensures.same

pub returns-in-Failed-clause-led : goal.returns-in-Failed-clause-led
returns-in-Failed-clause-led g c =
    let same = all-trans c.args.queues.now c.loop.queues c.lead_next.new.queues c.loop.invariant.same c.lead_next.ensures.same in
    let long = AllZip-length SameQueues c.args.queues.now c.lead_next.new.queues same in
    let count : callers_of c.args.job.now.claims.now ≡ suc (length c.lead_next.new.queues) = c.requires.callers ∙ ap suc long in
    led_failed c.args.job.now.plan.now c.args.job.now.rows.now c.args.job.now.claims.now (blocks_of c.args.job.now.claims.now) (draws_of c.lead_next.new.claim) (use_in c.lead_next.new.seat) c.lead_next.new.queues c.lead_next.new.kept c.lead_next.new.groups c.in-Failed.why count c.in-Failed.ensures.step

pub returns-in-NoMore-clause-seat : goal.returns-in-NoMore-clause-seat
returns-in-NoMore-clause-seat g c = stays_through c.args.job.now.table.now c.args.seat.now c.loop.seat c.lead_next.new.seat c.loop.invariant.stays c.lead_next.ensures.seat

pub returns-in-Failed-clause-seat : goal.returns-in-Failed-clause-seat
returns-in-Failed-clause-seat g c = stays_through c.args.job.now.table.now c.args.seat.now c.loop.seat c.lead_next.new.seat c.loop.invariant.stays c.lead_next.ensures.seat
