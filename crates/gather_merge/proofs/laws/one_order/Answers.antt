use Rattle.gather_merge.proofs.Ordered.{one_order}
use Rattle.gather_merge.proofs.laws.one_order.Goals as goal

pub returns : goal.returns
returns c = one_order
