use Rattle.std.proofs.Common.{◌∙◌, ap}
use Rattle.table_order.specs.Entries.{turned_answer}
use Rattle.table_order.proofs.Orders.{others-full}
use Rattle.table_order.proofs.entry.compare_others.Goals as goal

pub returns-in-false-false : goal.returns-in-false-false
returns-in-false-false c = others-full c.args.down c.args.a.now c.args.b.now c.turned.result (cc) (cc) (c.turned.ensures ∙ ap (turned_answer c.args.down) c.cmp.ensures)
