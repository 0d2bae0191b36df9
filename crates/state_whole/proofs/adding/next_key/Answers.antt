use Rattle.std.proofs.Common.{refl}
use Rattle.state_whole.proofs.adding.next_key.Goals as goal

pub returns-in-Ok : goal.returns-in-Ok
returns-in-Ok c = c.in-Ok.ensures.taken

pub returns-in-Err-Order : goal.returns-in-Err-Order
returns-in-Err-Order c = λ columns range keys has. (refl, rw c.in-Err-Order.field-0-is at (c.in-Err-Order.ensures.refused columns range keys has))

pub returns-in-Err-Range : goal.returns-in-Err-Range
returns-in-Err-Range c = λ columns range keys has. (refl, rw c.in-Err-Range.field-0-is at (c.in-Err-Range.ensures.refused columns range keys has))
