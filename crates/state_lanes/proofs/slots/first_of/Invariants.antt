use Rattle.std.proofs.Common.{◌≡◌, drop}
use Rattle.state_lanes.specs.Lanes.{first_of}
use Rattle.state_lanes.proofs.slots.first_of.Given as goal

abbrev pub invariant-loop-at : goal.invariant-loop-at
invariant-loop-at l = first_of (drop l.at l.items) (drop l.at l.slots) l.lane ≡ first_of l.items l.slots l.lane
