use Rattle.mq_ring.proofs.SenderSteps.{look_allows}
use Rattle.mq_ring.proofs.sender.RingTx.look_read.Goals as goal

pub load_as-found-requires-clause-allowed : goal.load_as-found-requires-clause-allowed
load_as-found-requires-clause-allowed c = look_allows c.self.inside.seat.table_id _ _ c.self.inside.seat.id c.self.inside.seat.me _ _ _ _ _ _ _ c.self.invariant.0 c.self.view_is c.requires.here c.requires.stays
