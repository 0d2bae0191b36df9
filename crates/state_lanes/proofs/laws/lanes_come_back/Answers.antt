use Rattle.state_lanes.proofs.Told.{come_back}
use Rattle.state_lanes.proofs.laws.lanes_come_back.Goals as goal

pub returns : goal.returns
returns c = come_back
