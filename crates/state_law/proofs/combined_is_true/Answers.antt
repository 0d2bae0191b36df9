use Rattle.state_law.proofs.Laws.{combined_is_true}
use Rattle.state_law.proofs.combined_is_true.Goals as goal

pub returns : goal.returns
returns c = combined_is_true c.rows_are_told.ensures c.lanes_come_back.ensures
