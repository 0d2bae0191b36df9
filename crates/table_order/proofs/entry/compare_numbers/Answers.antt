use Rattle.table_order.specs.Digits.{units_in}
use Rattle.table_order.proofs.Orders.{numbers-compare, units-read}
use Rattle.table_order.proofs.entry.compare_numbers.Goals as goal

pub returns-in-Some-Some : goal.returns-in-Some-Some
returns-in-Some-Some c =
    let x = c.in-Some-Some.x in
    let y = c.in-Some-Some.y in
    numbers-compare c.args.places c.args.down c.args.a.now c.args.b.now (units_in x) (units_in y) c.compare.result c.turned.result c.in-Some-Some.ensures.some c.in-Some-Some.ensures'.some
    (units-read c.args.places c.args.a.now x.minus _ c.in-Some-Some.ensures.size c.in-Some-Some.ensures.minus)
    (units-read c.args.places c.args.b.now y.minus _ c.in-Some-Some.ensures'.size c.in-Some-Some.ensures'.minus)
    c.compare.ensures c.turned.ensures
