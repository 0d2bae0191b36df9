use Rattle.state_law.proofs.Laws.{sum_is_all}
use Rattle.state_law.proofs.sum_is_all.Goals as goal

pub returns : goal.returns
returns c = sum_is_all c.rows_are_told.ensures c.lanes_come_back.ensures
