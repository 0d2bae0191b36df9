use Rattle.std.proofs.Common.{◌∙◌, sym}
use Rattle.gather_merge.proofs.Led.{hears_failed, merged_all}
use Rattle.gather_merge.proofs.leading.merge_all.Goals as goal

pub returns-then-is_some-clause-merged : goal.returns-then-is_some-clause-merged
returns-then-is_some-clause-merged g c =
    hears_failed c.args.plan.now c.args.rows.now c.args.list.now.items c.hear_all-failure.new.list.items c.hear_all-failure.new.list.items c.hear_all-failure.new.queues c.hear_all-failure.result
    (sym c.is_some.ensures ∙ c.if-is_some.true) c.hear_all-failure.ensures.heard

pub returns-in-Ok-clause-merged : goal.returns-in-Ok-clause-merged
returns-in-Ok-clause-merged g c =
    merged_all c.args.plan.now c.args.rows.now c.args.list.now.items c.hear_all-failure.new.list.items c.merge_rows.new.list.items c.hear_all-failure.new.queues c.hear_all-failure.result
    (sym c.is_some.ensures ∙ c.if-is_some.false) c.hear_all-failure.ensures.heard c.in-Ok.ensures.permutation c.in-Ok.ensures.sorted
