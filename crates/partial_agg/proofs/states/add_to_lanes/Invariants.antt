use Rattle.std.proofs.Common.{◌≡◌}
use Rattle.partial_agg.specs.Lanes.{lanes_of}
use Rattle.partial_agg.specs.Values.{values_state}
use Rattle.partial_agg.proofs.Slots.{begun}
use Rattle.partial_agg.proofs.states.add_to_lanes.Given as goal

abbrev pub invariant-loop-lane : goal.invariant-loop-lane
invariant-loop-lane l = l.lanes ≡ begun l.lane l.fn.lanes (lanes_of l.layout (values_state l.values).slots)
