use Rattle.std.proofs.Common.{◌≡◌, ◌-◌, drop, length, map, replicate, take}
use Rattle.par_model.specs.Aggregate.{no_values}
use Rattle.state_lanes.specs.Lanes.{slot_in}
use Rattle.state_lanes.proofs.slots.item_slots.Given as goal

abbrev pub invariant-loop-at : goal.invariant-loop-at
invariant-loop-at l = (length l.found ≡ 8) × (take l.at l.found ≡ map (slot_in l.lanes l.slots) (take l.at l.items)) × (drop l.at l.found ≡ replicate (8 - l.at) no_values)
