use Rattle.std.proofs.Common.{◌≡◌, length}
use Rattle.part_run.proofs.moving.no_maps.Given as goal

abbrev pub invariant-loop-part : goal.invariant-loop-part
invariant-loop-part l = length l.maps.items ≡ l._part
