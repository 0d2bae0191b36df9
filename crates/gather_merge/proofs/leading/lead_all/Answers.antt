use Rattle.std.proofs.Common.{ap, suc, length, ◌≡◌, ◌∙◌}
use Rattle.parallel_ctx.proofs.Zips.{AllZip-length}
use Rattle.parallel_ctx.specs.Tokens.{SameQueues}
use Rattle.scan_claim.specs.Shown.{blocks_of, callers_of, draws_of}
use Rattle.gather_merge.specs.Drawn.{HasDrawnAll}
use Rattle.gather_merge.proofs.Asked.{all-trans}
use Rattle.gather_merge.proofs.Drawn.{drawn_none}
use Rattle.gather_merge.proofs.Led.{led_merged, led_met, stream_drawn}
use Rattle.gather_merge.proofs.leading.lead_all.Goals as goal

pub draw_all-requires-clause-drawn : goal.draw_all-requires-clause-drawn
draw_all-requires-clause-drawn g c = drawn_none c.args.job.now.plan.now c.args.job.now.rows.now c.args.job.now.claims.now c.args.claim.now c.new-list.result.items c.requires.seat.1 c.new-list.ensures.items

pub returns-in-Some-clause-led : goal.returns-in-Some-clause-led
returns-in-Some-clause-led g c =
    let long = AllZip-length SameQueues c.args.queues.now c.draw_all.new.queues c.draw_all.ensures.same in
    let count : callers_of c.args.job.now.claims.now ≡ suc (length c.draw_all.new.queues) = c.requires.callers ∙ ap suc long in
    led_met c.args.job.now.plan.now c.args.job.now.rows.now c.args.job.now.claims.now c.draw_all.new.claim (blocks_of c.args.job.now.claims.now) (draws_of c.draw_all.new.claim) c.draw_all.new.queues c.args.order.now.items c.in-Some.why c.answer_of.result
    count c.in-Some.ensures.drawn c.answer_of.ensures

pub returns-clause-same : goal.returns-clause-same
returns-clause-same g c = all-trans c.args.queues.now c.draw_all.new.queues c.merge_all-failure.new.queues c.draw_all.ensures.same c.merge_all-failure.ensures.same

pub returns-clause-led : goal.returns-clause-led
returns-clause-led g c =
    let plan = c.args.job.now.plan.now in
    let records = c.args.job.now.rows.now in
    let claims = c.args.job.now.claims.now in
    let d : HasDrawnAll plan records claims c.draw_all.new.claim c.draw_all.new.list.items = c.in_default.ensures.drawn in
    let stream = stream_drawn plan records claims c.draw_all.new.claim c.draw_all.new.list.items c.sort_rows.new.list.items d c.in-Ok.ensures.permutation c.in-Ok.ensures.sorted in
    led_merged plan records (blocks_of claims) (draws_of c.draw_all.new.claim) c.sort_rows.new.list.items c.merge_all-failure.new.list.items c.merge_all-failure.new.queues c.merge_all-failure.result stream d.spent c.merge_all-failure.ensures.merged
