use Rattle.mq_ring.proofs.SenderSteps.{leave_allows}
use Rattle.mq_ring.proofs.sender.RingTx.set_flag.Goals as goal

pub store_as-requires-clause-allowed : goal.store_as-requires-clause-allowed
store_as-requires-clause-allowed c = leave_allows c.self.inside.seat.table_id _ _ c.self.inside.seat.id c.self.inside.seat.me _ _ _ _ _ _ _ c.self.invariant.0 c.self.view_is c.requires.here c.requires.stays
