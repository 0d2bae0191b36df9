use Rattle.table_order.proofs.Values.{zero-none, zero-some}
use Rattle.table_order.proofs.number.are_zero.Goals as goal

pub returns-then-is_empty : goal.returns-then-is_empty
returns-then-is_empty c =
    zero-none c.args.whole.now c.args.part.now c.without_zeros.result.now c.without_zeros.ensures.zeros.0 c.is_empty.result c.is_empty-then-is_empty.result c.requires.part c.is_empty.ensures c.if-is_empty.true
    c.without_zeros.ensures.front c.without_zeros.ensures.zeros.1 c.is_empty-then-is_empty.ensures

pub returns-else-is_empty : goal.returns-else-is_empty
returns-else-is_empty c = zero-some c.args.whole.now c.args.part.now c.is_empty.result c.requires.whole c.requires.part c.requires.front c.is_empty.ensures c.if-is_empty.false
