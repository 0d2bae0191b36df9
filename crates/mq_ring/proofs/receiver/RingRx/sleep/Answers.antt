use mathlib.Core.Logic.{inr}
use Rattle.mq_ring.proofs.RowSteps.{idle_self}
use Rattle.mq_ring.proofs.Advice.{receiver_cell, receiver_advice_inside, receiver_stays, receiver_same}
use Rattle.mq_ring.proofs.receiver.RingRx.sleep.Goals as goal

pub sleep_on-requires-clause-inside : goal.sleep_on-requires-clause-inside
sleep_on-requires-clause-inside g c = receiver_advice_inside c.self.inside.seat.table_id _ c.receiver_word-word.result c.self.inside.seat.me _ _ _ _ _ c.self.invariant c.self.view_is c.requires.here (inr c.receiver_word-word.ensures)

pub sleep_on-requires-clause-idle : goal.sleep_on-requires-clause-idle
sleep_on-requires-clause-idle g c = idle_self c.self.inside.seat.me _ c.self.invariant.receives

pub sleep_on-requires-clause-cell : goal.sleep_on-requires-clause-cell
sleep_on-requires-clause-cell g c = receiver_cell c.self.inside.seat.table_id c.receiver_word-word.result c.self.inside.seat.me _ _ _ _ c.self.invariant (inr c.receiver_word-word.ensures)

pub invariant_of-self : goal.invariant_of-self
invariant_of-self g c = receiver_stays c.self.inside.seat.table_id c.sleep_on.new.seat.table_id c.self.inside.seat.me c.sleep_on.new.seat.me _ _ _ _ c.sleep_on.ensures.0 c.sleep_on.ensures.1 c.self.invariant

pub returns : goal.returns
returns g c = receiver_same c.self.inside.seat.table_id c.sleep_on.new.seat.table_id c.self.inside.seat.me c.sleep_on.new.seat.me _ c.sleep_on.ensures.0 c.sleep_on.ensures.1 c.self.view_is
