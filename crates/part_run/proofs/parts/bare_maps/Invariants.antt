use Rattle.std.proofs.Common.{◌≡◌}
use Rattle.part_run.specs.Waiting.{groups_in}
use Rattle.part_run.proofs.parts.bare_maps.Given as goal

abbrev pub invariant-loop-map : goal.invariant-loop-map
invariant-loop-map l = l.bare.items ≡ groups_in l.yielded
