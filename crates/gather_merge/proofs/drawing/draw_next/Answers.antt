use Rattle.gather_merge.proofs.Stopping.{step_alone, stops_heard}
use Rattle.gather_merge.proofs.drawing.draw_next.Goals as goal

pub returns-in-Some-clause-step : goal.returns-in-Some-clause-step
returns-in-Some-clause-step g c = stops_heard c.args.job.now.plan.now c.args.job.now.rows.now c.args.job.now.claims.now c.args.claim.now c.hear_early.new.queues c.in-Some.why c.in-Some.ensures.named

pub returns-clause-step : goal.returns-clause-step
returns-clause-step g c =
    step_alone c.args.job.now.plan.now c.args.job.now.rows.now c.args.job.now.claims.now c.draw_block.new.claim c.hear_early.new.queues c.draw_block.new.list.items c.draw_block.result c.draw_block.ensures.step
