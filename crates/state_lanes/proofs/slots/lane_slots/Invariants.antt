use Rattle.std.proofs.Common.{◌≡◌, length, map, take}
use Rattle.state_lanes.specs.Lanes.{first_of}
use Rattle.state_lanes.proofs.slots.lane_slots.Given as goal

abbrev pub invariant-loop-at : goal.invariant-loop-at
invariant-loop-at l = (length l.found ≡ 8) × (take l.at l.found ≡ map (first_of l.items l.slots) (take l.at l.lanes))
