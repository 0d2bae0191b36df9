use Rattle.std.proofs.Common.{◌≡◌, length}
use Rattle.part_run.specs.Carrying.{with_carried}
use Rattle.part_run.proofs.parts.add_list.Given as goal

-- with those that are left it has all rows of the list
abbrev pub invariant-rows : goal.invariant-rows
invariant-rows l = with_carried l.groups l.rows ≡ with_carried l.fn.groups l.list

abbrev pub decreases-rows : goal.decreases-rows
decreases-rows l = length l.rows
