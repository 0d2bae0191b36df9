use Rattle.std.proofs.Common.{◌∙◌, ap}
use Rattle.std.specs.Ordering.{is_lt}
use Rattle.state_keep.proofs.Outside.{early_of, is_closed, not_empty}
use Rattle.state_keep.proofs.pass.is_early.Goals as goal

pub returns-in-Some-read_first : goal.returns-in-Some-read_first
returns-in-Some-read_first c = λ later all e holds.
    let shape = c.args.shape.now in
    early_of shape.columns shape.kinds.now c.args.kept later c.args.after.now c.in-Some.part.now c.in-Some-read_first.key.now c.is_lt.result all e
    (not_empty c.args.after.now c.is_empty-else-is_empty.result c.is_empty-else-is_empty.ensures c.if-is_empty-2.false) (λ p r few split. (c.in-Some.ensures.written p r few split).0) (c.in-Some-read_first.ensures.written)
    (is_closed c.args.kept.range.low.now c.is_empty.result c.is_empty.ensures c.if-is_empty.false) (c.is_lt.ensures ∙ ap is_lt c.compare_columns.ensures) holds
