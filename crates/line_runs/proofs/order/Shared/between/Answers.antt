use Rattle.std.proofs.Common.{refl}
use Rattle.line_runs.proofs.Whole.{front_is, reads_more, reads_none, whole_from, whole_none}
use Rattle.line_runs.proofs.order.Shared.between.Goals as goal

pub loop-at-init : goal.loop-at-init
loop-at-init c = reads_none c.args.low.now

pub loop-at-preserved : goal.loop-at-preserved
loop-at-preserved c =
    let whole = c.if-not-has_column.ensures in
    reads_more c.args.low.now c.loop-at.left.now _ c.loop-at._at c.loop-at.invariant c.split_column.ensures.rest whole.0 whole.1

pub returns-then-ne : goal.returns-then-ne
returns-then-ne c = whole_from c.args.low.now c.loop-at.left.now c.loop-at._at c.args.columns _ c.loop-at.invariant c.loop-at-test.true (front_is c.args.low.now c.loop-at.left.now c.loop-at._at _ c.loop-at.invariant refl)

pub returns : goal.returns
returns c = whole_none c.args.columns _ c.requires refl
