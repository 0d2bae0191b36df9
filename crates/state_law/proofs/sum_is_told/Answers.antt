use Rattle.state_law.proofs.Read.{sum_is_told}
use Rattle.state_law.proofs.sum_is_told.Goals as goal

pub returns : goal.returns
returns c = sum_is_told c.rows_are_told.ensures c.lanes_come_back.ensures
