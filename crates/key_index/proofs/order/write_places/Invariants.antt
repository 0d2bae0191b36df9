use Rattle.std.proofs.Common.{◌≡◌, map, take}
use Rattle.key_index.specs.Order.{place_of}
use Rattle.key_index.proofs.order.write_places.Given as goal

abbrev pub invariant-loop-at : goal.invariant-loop-at
invariant-loop-at l = take l.at l.places ≡ map place_of (take l.at l.entries)
