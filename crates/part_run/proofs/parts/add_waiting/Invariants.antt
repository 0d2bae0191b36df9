use Rattle.std.proofs.Common.{◌≡◌, take}
use Rattle.part_run.specs.Carrying.{waiting_for, with_carried}
use Rattle.part_run.proofs.parts.add_waiting.Given as goal

-- the rows of the participants so far were added
abbrev pub invariant-loop-of_one : goal.invariant-loop-of_one
invariant-loop-of_one l = l.map.groups ≡ with_carried l.fn.map.groups (waiting_for l.part (take l.of_one-index l.lists))
