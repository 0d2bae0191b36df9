use Rattle.state_law.proofs.Told.{groups_are_told}
use Rattle.state_law.proofs.groups_are_told.Goals as goal

pub returns : goal.returns
returns c = groups_are_told c.rows_are_told.ensures c.lanes_come_back.ensures
