use Rattle.std.proofs.Common.{◌∙◌, sym}
use Rattle.result_text.proofs.Columns.{columns_cmp-end, columns_cmp-equal, columns_cmp-start, columns_cmp-unequal}
use Rattle.result_text.proofs.order.compare_columns.Goals as goal

pub loop-at-init : goal.loop-at-init
loop-at-init c = columns_cmp-start c.args.columns c.args.a.now c.args.b.now

pub loop-at-preserved : goal.loop-at-preserved
loop-at-preserved c =
    columns_cmp-equal c.args.columns c.loop-at._at c.loop-at.left.now c.loop-at.right.now _ _ _ _ _ c.loop-at-test.true
    c.split_column.ensures.first c.split_column.ensures.rest c.split_column-in-loop-at.ensures.first c.split_column-in-loop-at.ensures.rest
    c.in-Equal.ensures c.loop-at.invariant

pub returns-in_default : goal.returns-in_default
returns-in_default c =
    columns_cmp-unequal c.args.columns c.loop-at._at c.loop-at.left.now c.loop-at.right.now _ _ _ _ c.loop-at-test.true
    c.split_column.ensures.first c.split_column-in-loop-at.ensures.first c.cmp.ensures c.in_default.not-Equal c.loop-at.invariant

pub returns : goal.returns
returns c = sym (columns_cmp-end c.args.columns c.loop-at._at c.loop-at.left.now c.loop-at.right.now c.loop-at-test.false) ∙ c.loop-at.invariant
