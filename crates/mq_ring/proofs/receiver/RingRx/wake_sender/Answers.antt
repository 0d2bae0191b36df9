use mathlib.Core.Logic.{inl}
use Rattle.mq_ring.proofs.RowSteps.{idle_self}
use Rattle.mq_ring.proofs.Advice.{receiver_cell, receiver_advice_inside, receiver_stays, receiver_same}
use Rattle.mq_ring.proofs.receiver.RingRx.wake_sender.Goals as goal

pub wake_if_asleep-requires-clause-inside : goal.wake_if_asleep-requires-clause-inside
wake_if_asleep-requires-clause-inside c = receiver_advice_inside c.self.inside.seat.table_id _ c.sender_word-word.result c.self.inside.seat.me _ _ _ _ _ c.self.invariant c.self.view_is c.requires.here (inl c.sender_word-word.ensures)

pub wake_if_asleep-requires-clause-idle : goal.wake_if_asleep-requires-clause-idle
wake_if_asleep-requires-clause-idle c = idle_self c.self.inside.seat.me _ c.self.invariant.receives

pub wake_if_asleep-requires-clause-cell : goal.wake_if_asleep-requires-clause-cell
wake_if_asleep-requires-clause-cell c = receiver_cell c.self.inside.seat.table_id c.sender_word-word.result c.self.inside.seat.me _ _ _ _ c.self.invariant (inl c.sender_word-word.ensures)

pub invariant_of-self : goal.invariant_of-self
invariant_of-self c = receiver_stays c.self.inside.seat.table_id c.wake_if_asleep.new.seat.table_id c.self.inside.seat.me c.wake_if_asleep.new.seat.me _ _ _ _ c.wake_if_asleep.ensures.0 c.wake_if_asleep.ensures.1 c.self.invariant

pub returns : goal.returns
returns c = receiver_same c.self.inside.seat.table_id c.wake_if_asleep.new.seat.table_id c.self.inside.seat.me c.wake_if_asleep.new.seat.me _ c.wake_if_asleep.ensures.0 c.wake_if_asleep.ensures.1 c.self.view_is
