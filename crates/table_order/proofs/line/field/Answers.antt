use Rattle.std.proofs.Common.{◌∙◌, ℕ, List, ap, take, true, false}
use Rattle.table_order.specs.Lines.{after_fields, between_quotes, size_to}
use Rattle.table_order.proofs.Fields.{fields-end, fields-more, line-field}
use Rattle.table_order.proofs.line.field.Goals as goal

pub loop-at-preserved : goal.loop-at-preserved
loop-at-preserved c = fields-more c.args.column c.loop-at._at c.loop-at.left.now _ _ c.loop-at-test.true c.after_field-left.ensures c.loop-at.invariant

pub returns : goal.returns
returns c fields is =
    let left = fields-end c.args.column c.loop-at._at c.loop-at.left.now _ c.loop-at-test.false c.loop-at.invariant ∙ ap (after_fields c.args.column) is in
    c.between_quotes.ensures ∙ ap between_quotes (ap (λ (n : ℕ). take n c.loop-at.left.now) c.size_to.ensures.size)
    ∙ ap (λ (line : List ℕ). between_quotes (take (size_to true false line) line)) left ∙ line-field c.args.column fields
