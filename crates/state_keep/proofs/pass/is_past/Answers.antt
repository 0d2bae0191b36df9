use Rattle.std.proofs.Common.{◌∙◌, ap}
use Rattle.std.specs.Ordering.{is_lt}
use Rattle.state_keep.proofs.Outside.{is_closed, past_of}
use Rattle.state_keep.proofs.pass.is_past.Goals as goal

pub returns-in-Some : goal.returns-in-Some
returns-in-Some c = λ block is e holds.
    let shape = c.args.shape.now in
    past_of shape.columns shape.kinds.now c.args.kept block c.args.part.now c.in-Some.key.now c.is_lt.result is e (c.in-Some.ensures.written)
    (is_closed c.args.kept.range.high.now c.is_empty.result c.is_empty.ensures c.if-is_empty.false) (c.is_lt.ensures ∙ ap is_lt c.compare_columns.ensures) holds
