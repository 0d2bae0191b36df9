use Rattle.std.proofs.Common.{◌≡◌, take}
use Rattle.gather_law.specs.KeyParts.{part_map}
use Rattle.row_lists.specs.Parts.{part_of}
use Rattle.part_run.specs.Moving.{lists_of}
use Rattle.part_run.proofs.moving.part_map.Given as goal

-- the map of the groups of the part in the lists so far
abbrev pub invariant-loop-list : goal.invariant-loop-list
invariant-loop-list l = l.so_far ≡ part_map part_of l.part (lists_of (take l.list-index l.lists))
