use Rattle.std.proofs.Common.{◌≡◌, drop}
use Rattle.std.specs.List.{after_first}
use Rattle.par_model.specs.Number.{is_point}
use Rattle.table_order.proofs.places.places_of.Given as goal

abbrev pub invariant-loop-at : goal.invariant-loop-at
invariant-loop-at l = after_first is_point l.text ≡ after_first is_point (drop l.at l.text)
