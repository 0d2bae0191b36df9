use Rattle.std.proofs.Common.{◌≡◌, map, take}
use Rattle.state_lanes.specs.Lanes.{has_numbers}
use Rattle.state_lanes.proofs.lanes.kinds_of.Given as goal

abbrev pub invariant-loop-lane : goal.invariant-loop-lane
invariant-loop-lane l = l.kinds.items ≡ map has_numbers (take l.lane-index l.lanes)
