use Rattle.std.proofs.Common.{arith}
use Rattle.std.proofs.lemmas.List.{take_more_same}
use Rattle.partial_agg.proofs.states.same_items.Goals as goal

pub loop-at-preserved : goal.loop-at-preserved
loop-at-preserved c = take_more_same c.args.a.now c.args.b.now c.loop-at.at _ c.loop-at-test.true (omega arith) c.loop-at.invariant (c.is_same.ensures c.if-not-is_same.false)
