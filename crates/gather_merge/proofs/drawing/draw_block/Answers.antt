use Rattle.gather_merge.proofs.Drawn.{drawn_all, drawn_block, met}
use Rattle.gather_merge.proofs.drawing.draw_block.Goals as goal

pub returns-in_default-clause-step : goal.returns-in_default-clause-step
returns-in_default-clause-step g c =
    drawn_all c.args.job.now.plan.now c.args.job.now.rows.now c.args.job.now.claims.now c.args.claim.now c.draw.new.claim c.args.list.now.items c.requires.drawn c.requires.job.blocks c.in_default.ensures.none c.draw.ensures.in_order
    c.in_default.ensures.spent

pub returns-in-Ok-clause-step : goal.returns-in-Ok-clause-step
returns-in-Ok-clause-step g c =
    drawn_block c.args.job.now.plan.now c.args.job.now.rows.now c.args.job.now.claims.now c.args.claim.now c.draw.new.claim c.in-Some.block c.args.list.now.items c.take_block.new.list.items c.requires.drawn c.in-Some.ensures.drawn
    c.draw.ensures.in_order c.in-Ok.ensures.accepted c.in-Ok.ensures.taken

pub returns-in-Err-clause-step : goal.returns-in-Err-clause-step
returns-in-Err-clause-step g c =
    met c.args.job.now.plan.now c.args.job.now.rows.now c.args.job.now.claims.now c.args.claim.now c.draw.new.claim c.in-Some.block c.args.list.now.items c.in-Err.why c.requires.drawn c.in-Some.ensures.drawn c.draw.ensures.in_order c.in-Err.ensures.stopped
