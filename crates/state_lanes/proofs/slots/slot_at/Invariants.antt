use Rattle.std.proofs.Common.{◌≡◌, drop}
use Rattle.state_lanes.specs.Lanes.{slot_at}
use Rattle.state_lanes.proofs.slots.slot_at.Given as goal

abbrev pub invariant-loop-at : goal.invariant-loop-at
invariant-loop-at l = slot_at (drop l.at l.lanes) (drop l.at l.slots) l.lane ≡ slot_at l.lanes l.slots l.lane
