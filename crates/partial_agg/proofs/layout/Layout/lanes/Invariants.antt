use Rattle.std.proofs.Common.{◌≡◌, get_or, length, map, take}
use Rattle.par_model.specs.Aggregate.{no_values}
use Rattle.partial_agg.proofs.layout.Layout.lanes.Given as goal

abbrev pub invariant-loop-lane : goal.invariant-loop-lane
invariant-loop-lane l = record { long : length l.lanes ≡ 8; done : take l.lane l.lanes ≡ map (λ at. get_or l.slots at no_values) (take l.lane l.self.kept) }
