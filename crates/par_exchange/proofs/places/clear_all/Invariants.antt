use Rattle.std.proofs.Common.{◌≡◌}
use Rattle.par_exchange.proofs.PlaceLaws.{mixed}
use Rattle.par_exchange.proofs.places.clear_all.Given as goal

abbrev pub invariant-loop-place : goal.invariant-loop-place
invariant-loop-place g l = l.places ≡ mixed l.place-index l.fn.places
