use Rattle.std.proofs.Common.{◌≡◌, Ok, map}
use Rattle.part_run.proofs.moving.all_of.Given as goal

abbrev pub invariant-loop-map : goal.invariant-loop-map
invariant-loop-map l = map Ok l.maps.items ≡ l.yielded
