use mathlib.Core.Logic.{inr}
use Rattle.mq_ring.proofs.RowSteps.{idle_self}
use Rattle.mq_ring.proofs.Advice.{sender_cell, sender_advice_inside, sender_stays, sender_same}
use Rattle.mq_ring.proofs.sender.RingTx.wake_receiver.Goals as goal

pub wake_if_asleep-requires-clause-inside : goal.wake_if_asleep-requires-clause-inside
wake_if_asleep-requires-clause-inside c = sender_advice_inside c.self.inside.seat.table_id _ _ c.receiver_word-word.result c.self.inside.seat.me _ _ _ _ _ _ _ c.self.invariant.0 c.self.view_is c.requires.here (inr c.receiver_word-word.ensures)

pub wake_if_asleep-requires-clause-idle : goal.wake_if_asleep-requires-clause-idle
wake_if_asleep-requires-clause-idle c = idle_self c.self.inside.seat.me _ c.self.invariant.0.sends

pub wake_if_asleep-requires-clause-cell : goal.wake_if_asleep-requires-clause-cell
wake_if_asleep-requires-clause-cell c = sender_cell c.self.inside.seat.table_id _ c.receiver_word-word.result c.self.inside.seat.me _ _ _ _ c.self.invariant.0 (inr c.receiver_word-word.ensures)

pub invariant_of-self : goal.invariant_of-self
invariant_of-self c = (sender_stays c.self.inside.seat.table_id c.wake_if_asleep.new.seat.table_id _ c.self.inside.seat.me c.wake_if_asleep.new.seat.me _ _ _ _ c.wake_if_asleep.ensures.0 c.wake_if_asleep.ensures.1 c.self.invariant.0, c.self.invariant.1)

pub returns : goal.returns
returns c = sender_same c.self.inside.seat.table_id c.wake_if_asleep.new.seat.table_id c.self.inside.seat.me c.wake_if_asleep.new.seat.me _ _ _ c.wake_if_asleep.ensures.0 c.wake_if_asleep.ensures.1 c.self.view_is
