use Rattle.std.proofs.Common.{◌∙◌, sym}
use Rattle.state_head.specs.Words.{keys_of}
use Rattle.state_order.proofs.Within.{in_is, is_in_of}
use Rattle.state_order.proofs.order.is_in.Goals as goal

pub returns : goal.returns
returns c = (
  λ e. in_is c.args.columns (keys_of c.args.range) c.args.key.now (sym c.is_within.ensures ∙ e),
  λ is. c.is_within.ensures ∙ is_in_of c.args.columns (keys_of c.args.range) c.args.key.now is,
)
