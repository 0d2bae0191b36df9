use Rattle.std.proofs.Common.{◌≡◌, ◌≤◌, [], length, take}
use Rattle.state_lanes.proofs.Among.{lanes_after}
use Rattle.state_lanes.proofs.lanes.lanes_of.Given as goal

abbrev pub invariant-loop-item : goal.invariant-loop-item
invariant-loop-item l = (l.lanes.items ≡ lanes_after [] (take l.item-index l.items)) × (length l.lanes.items ≤ l.item-index)
