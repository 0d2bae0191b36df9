use Rattle.std.proofs.Common.{◌∙◌, ap}
use Rattle.table_order.specs.Entries.{turned_answer}
use Rattle.table_order.proofs.Orders.{bytes-are, numbers-are}
use Rattle.table_order.proofs.entry.compare_fields.Goals as goal

pub returns-in-Bytes : goal.returns-in-Bytes
returns-in-Bytes c = bytes-are c.args.order.by c.args.order.down c.args.a.now c.args.b.now c.turned.result c.in-Bytes.is (c.turned.ensures ∙ ap (turned_answer c.args.order.down) c.cmp.ensures)

pub returns-in-Numbers : goal.returns-in-Numbers
returns-in-Numbers c = numbers-are c.args.order.by c.in-Numbers.places c.args.order.down c.args.a.now c.args.b.now c.compare_numbers.result c.in-Numbers.is c.compare_numbers.ensures
