use Rattle.std.proofs.Common.{refl}
use Rattle.state_order.proofs.Orders.{Follows, key_more, not_in, not_next, says_no}
use Rattle.state_order.specs.Order.{IsIn}
use Rattle.state_head.specs.Words.{keys_of}
use Rattle.state_order.proofs.order.KeyOrder.take.Goals as goal

pub returns-then-not-follows-clause-refused : goal.returns-then-not-follows-clause-refused
returns-then-not-follows-clause-refused c = λ columns range keys has.
    let old = c.args.self.now in
    not_next columns range keys c.args.key.now old has (says_no c.follows.result (Follows old c.args.key.now) c.follows.ensures.1 c.if-not-follows.true)

pub returns-then-not-is_in-clause-refused : goal.returns-then-not-is_in-clause-refused
returns-then-not-is_in-clause-refused c = λ columns range keys has.
    let old = c.args.self.now in
    not_in columns range keys c.args.key.now old has (says_no c.is_in.result (IsIn old.columns (keys_of old.range) c.args.key.now) c.is_in.ensures.1 c.if-not-is_in.true)

pub returns-clause-taken : goal.returns-clause-taken
returns-clause-taken c = λ columns range keys has.
    key_more columns range keys c.args.key.now c.args.self.now _ has (c.follows.ensures.0 c.if-not-follows.false) (c.is_in.ensures.0 c.if-not-is_in.false) refl refl refl
