use Rattle.std.proofs.Common.{◌≡◌, take}
use Rattle.partial_agg.specs.Lanes.{lanes_of, slots_in}
use Rattle.partial_agg.specs.Values.{values_state}
use Rattle.partial_agg.proofs.layout.Layout.fits_values.Given as goal

abbrev pub invariant-loop-at : goal.invariant-loop-at
invariant-loop-at l = slots_in (take l.at l.self.parts) (lanes_of l.self (values_state l.values).slots) ≡ take l.at (values_state l.values).slots
