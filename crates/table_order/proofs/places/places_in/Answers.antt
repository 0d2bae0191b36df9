use Rattle.std.proofs.Common.{refl}
use Rattle.table_order.proofs.Tables.{none-from, places-end, places-found, places-more, rest-is, some-from}
use Rattle.table_order.proofs.places.places_in.Goals as goal

pub loop-left-init : goal.loop-left-init
loop-left-init c header rows is = (rows, (rest-is c.args.text.now c.split_line.result.0.now c.split_line.result.1.now header rows is c.split_line.ensures.line c.split_line.ensures.both).1, refl)

pub returns-then-not-is_empty : goal.returns-then-not-is_empty
returns-then-not-is_empty c header rows is =
    let so_far = c.loop-left.invariant header rows is in
    places-found c.args.column c.loop-left.left.now c.split_line-in-loop-left.result.0.now c.split_line-in-loop-left.result.1.now c.field-field.result.now so_far.0 rows c.is_empty-in-loop-left.result c.places_of.result
    (some-from _ c.is_empty.result c.is_empty.ensures c.loop-left-test.true) so_far.1 so_far.2 c.split_line-in-loop-left.ensures.line c.split_line-in-loop-left.ensures.both c.field-field.ensures c.is_empty-in-loop-left.ensures
    c.if-not-is_empty.true c.places_of.ensures

pub loop-left-preserved : goal.loop-left-preserved
loop-left-preserved c header rows is =
    let so_far = c.loop-left.invariant header rows is in
    places-more c.args.column c.loop-left.left.now c.split_line-in-loop-left.result.0.now c.split_line-in-loop-left.result.1.now c.field-field.result.now so_far.0 rows c.is_empty-in-loop-left.result
    (some-from _ c.is_empty.result c.is_empty.ensures c.loop-left-test.true) so_far.1 so_far.2 c.split_line-in-loop-left.ensures.line c.split_line-in-loop-left.ensures.both c.field-field.ensures c.is_empty-in-loop-left.ensures
    c.if-not-is_empty.false

pub returns : goal.returns
returns c header rows is =
    let so_far = c.loop-left.invariant header rows is in
    places-end c.args.column c.loop-left.left.now so_far.0 rows (none-from c.loop-left.left.now c.is_empty.result c.is_empty.ensures c.loop-left-test.false) so_far.1 so_far.2
