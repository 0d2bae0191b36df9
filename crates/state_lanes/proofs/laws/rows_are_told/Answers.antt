use Rattle.state_lanes.proofs.Told.{rows_told}
use Rattle.state_lanes.proofs.laws.rows_are_told.Goals as goal

pub returns : goal.returns
returns c = rows_told
