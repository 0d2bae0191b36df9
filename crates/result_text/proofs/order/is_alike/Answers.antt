use Rattle.std.proofs.Common.{sym}
use Rattle.result_text.proofs.Even.{lengths-end, lengths-more, lengths-start}
use Rattle.result_text.proofs.order.is_alike.Goals as goal

pub loop-at-init : goal.loop-at-init
loop-at-init c = lengths-start c.args.columns c.args.b.now c.args.a.now

pub loop-at-preserved : goal.loop-at-preserved
loop-at-preserved c = λ same.
    c.loop-at.invariant
    (lengths-more c.args.columns c.loop-at._at c.loop-at.right.now c.loop-at.left.now _ _ _ _ c.loop-at-test.true
    c.split_column-in-loop-at.ensures.first c.split_column-in-loop-at.ensures.rest c.split_column.ensures.first c.split_column.ensures.rest (sym c.if-x-y.false) same)

pub returns : goal.returns
returns c = c.loop-at.invariant (lengths-end c.args.columns c.loop-at._at c.loop-at.right.now c.loop-at.left.now c.loop-at-test.false)
