use Rattle.std.proofs.Common.{◌≡◌, map}
use Rattle.partial_agg.specs.Values.{slot_of_value}
use Rattle.partial_agg.proofs.Slots.{begun}
use Rattle.partial_agg.proofs.states.add_to_each.Given as goal

abbrev pub invariant-loop-lane : goal.invariant-loop-lane
invariant-loop-lane l = l.lanes ≡ begun l.lane l.fn.lanes (map slot_of_value l.values)
