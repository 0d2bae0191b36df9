use Rattle.agg_cell.proofs.Orders.{any_order}
use Rattle.agg_cell.proofs.laws.any_order.Goals as goal

pub returns : goal.returns
returns c = any_order
