use Rattle.mq_ring.proofs.RowSteps.{put_ahead}
use Rattle.mq_ring.proofs.sender.RingTx.cells_ahead.Goals as goal

pub returns-clause-ahead : goal.returns-clause-ahead
returns-clause-ahead c = put_ahead c.self.inside.seat.table_id _ c.self.inside.seat.me _ _ _ _ _ _ _ c.cells_ahead.result c.self.invariant.0 c.self.view_is c.cells_ahead.ensures.ahead
