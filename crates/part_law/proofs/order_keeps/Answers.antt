use Rattle.part_law.proofs.AnyOrder.{order_keeps}
use Rattle.part_law.proofs.order_keeps.Goals as goal

pub returns : goal.returns
returns c = order_keeps
