use Rattle.std.proofs.Common.{◌≡◌, drop}
use Rattle.state_lanes.specs.Lanes.{has_lane}
use Rattle.state_lanes.proofs.lanes.has_lane.Given as goal

abbrev pub invariant-loop-at : goal.invariant-loop-at
invariant-loop-at l = has_lane (drop l.at l.lanes) l.lane ≡ has_lane l.lanes l.lane
