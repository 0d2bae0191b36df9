use Rattle.std.proofs.Common.{◌∙◌, ap, sym}
use Rattle.std.specs.Ordering.{is_lt}
use Rattle.state_order.proofs.Orders.{lt_is}
use Rattle.state_order.proofs.order.KeyOrder.follows.Goals as goal

pub returns-in-Some : goal.returns-in-Some
returns-in-Some c = rw c.in-Some.is (λ e. lt_is _ (sym c.is_before.ensures ∙ e), λ less. c.is_before.ensures ∙ ap is_lt less)
