use Rattle.std.proofs.Common.{refl}
use Rattle.state_head.specs.Words.{keys_of}
use Rattle.state_order.proofs.Orders.{no_keys}
use Rattle.state_order.proofs.order.KeyOrder.new.Goals as goal

pub returns : goal.returns
returns c = no_keys c.args.columns (keys_of c.args.range) _ refl refl refl
