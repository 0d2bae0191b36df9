use Rattle.std.proofs.Common.{arith}
use Rattle.result_text.proofs.Even.{all_alike}
use Rattle.result_text.proofs.order.are_alike.Goals as goal

pub returns : goal.returns
returns c = all_alike c.args.columns c.args.refs.now _ c.loop-group.group-index (omega arith) c.loop-group.invariant
