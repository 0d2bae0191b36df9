use Rattle.std.proofs.Common.{◌≡◌, All, map, take}
use Rattle.key_index.specs.Order.{IsNumbered, place_of}
use Rattle.key_index.proofs.order.entries_of.Given as goal

abbrev pub invariant-loop-place : goal.invariant-loop-place
invariant-loop-place l = record { places : map place_of l.entries.items ≡ take l.place-index l.places; each : All (IsNumbered l.keys l.from) l.entries.items }
