use Rattle.mq_ring.proofs.RowSteps.{take_ahead}
use Rattle.mq_ring.proofs.receiver.RingRx.cells_ahead.Goals as goal

pub returns-clause-ahead : goal.returns-clause-ahead
returns-clause-ahead c = take_ahead c.self.inside.seat.table_id c.self.inside.seat.me _ _ _ _ _ c.cells_ahead.result c.self.invariant c.self.view_is c.cells_ahead.ensures.ahead
