use mathlib.Core.Logic.{inl}
use Rattle.mq_ring.proofs.RowSteps.{idle_self}
use Rattle.mq_ring.proofs.Advice.{sender_cell, sender_advice_inside, sender_stays, sender_same}
use Rattle.mq_ring.proofs.sender.RingTx.sleep.Goals as goal

pub sleep_on-requires-clause-inside : goal.sleep_on-requires-clause-inside
sleep_on-requires-clause-inside g c = sender_advice_inside c.self.inside.seat.table_id _ _ c.sender_word-word.result c.self.inside.seat.me _ _ _ _ _ _ _ c.self.invariant.0 c.self.view_is c.requires.here (inl c.sender_word-word.ensures)

pub sleep_on-requires-clause-idle : goal.sleep_on-requires-clause-idle
sleep_on-requires-clause-idle g c = idle_self c.self.inside.seat.me _ c.self.invariant.0.sends

pub sleep_on-requires-clause-cell : goal.sleep_on-requires-clause-cell
sleep_on-requires-clause-cell g c = sender_cell c.self.inside.seat.table_id _ c.sender_word-word.result c.self.inside.seat.me _ _ _ _ c.self.invariant.0 (inl c.sender_word-word.ensures)

pub invariant_of-self : goal.invariant_of-self
invariant_of-self g c = (sender_stays c.self.inside.seat.table_id c.sleep_on.new.seat.table_id _ c.self.inside.seat.me c.sleep_on.new.seat.me _ _ _ _ c.sleep_on.ensures.0 c.sleep_on.ensures.1 c.self.invariant.0, c.self.invariant.1)

pub returns : goal.returns
returns g c = sender_same c.self.inside.seat.table_id c.sleep_on.new.seat.table_id c.self.inside.seat.me c.sleep_on.new.seat.me _ _ _ c.sleep_on.ensures.0 c.sleep_on.ensures.1 c.self.view_is
