use Rattle.mq_ring.proofs.SenderSteps.{flag_allows}
use Rattle.mq_ring.proofs.sender.RingTx.look_flag.Goals as goal

pub load_as-requires-clause-allowed : goal.load_as-requires-clause-allowed
load_as-requires-clause-allowed c = flag_allows c.self.inside.seat.table_id _ _ c.self.inside.seat.id c.self.inside.seat.me _ _ _ _ _ _ _ c.self.invariant.0 c.self.view_is c.requires.here c.requires.stays
