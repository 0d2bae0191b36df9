use Rattle.std.proofs.Common.{◌≡◌, map, take}
use Rattle.part_run.proofs.Lending.{part_in}
use Rattle.part_run.proofs.moving.parts_of_keys.Given as goal

abbrev pub invariant-loop-at : goal.invariant-loop-at
invariant-loop-at l = l.parts.items ≡ map part_in (take l.at l.groups)
