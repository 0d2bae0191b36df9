use Rattle.std.proofs.Common.{map}
use Rattle.agg_table.specs.Shown.{use_in}
use Rattle.scan_claim.specs.Shown.{draws_of}
use Rattle.gather_run.specs.Looks.{StaysLeading, tuples_of}
use Rattle.gather_run.proofs.Looking.{heard_keeping, step_of}
use Rattle.gather_run.proofs.leading.lead_next.Goals as goal
use Rattle.gather_run.proofs.leading.lead_next.Goals.{in-Ended, in-More}

pub returns-clause-step : goal.returns-clause-step
returns-clause-step g c =
    let stays : StaysLeading c.args.queues.now c.hear_all.new.queues c.args.groups.now c.hear_all.new.groups = elim c.match-hear_all.branch [ in-Ended w ↦ w.in-Ended.ensures.heard.0 | in-More w ↦ w.in-More.ensures.heard ] in
    step_of c.args.job.now.plan.now c.args.job.now.rows.now c.args.job.now.claims.now (draws_of c.lead_block.new.claim) (use_in c.lead_block.new.seat) c.hear_all.new.queues c.lead_block.new.kept c.lead_block.new.groups c.lead_block.result
    (c.lead_block.ensures.step (map tuples_of c.hear_all.new.queues) (heard_keeping c.args.job.now.plan.now c.args.job.now.rows.now (draws_of c.args.claim.now) (use_in c.args.seat.now) c.args.queues.now c.hear_all.new.queues c.args.kept.now c.args.groups.now c.hear_all.new.groups stays c.requires.leading))
