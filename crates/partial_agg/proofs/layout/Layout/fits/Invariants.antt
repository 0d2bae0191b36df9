use Rattle.std.proofs.Common.{◌≡◌, take}
use Rattle.partial_agg.specs.Lanes.{lanes_of, slots_in}
use Rattle.partial_agg.proofs.layout.Layout.fits.Given as goal

abbrev pub invariant-loop-at : goal.invariant-loop-at
invariant-loop-at l = slots_in (take l.at l.self.parts) (lanes_of l.self l.slots) ≡ take l.at l.slots
