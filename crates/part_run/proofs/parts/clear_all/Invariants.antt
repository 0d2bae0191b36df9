use Rattle.std.proofs.Common.{◌≡◌, ◌++◌, drop, map, take}
use Rattle.part_run.proofs.Held.{emptied}
use Rattle.part_run.proofs.parts.clear_all.Given as goal

-- the lists so far are empty
abbrev pub invariant-loop-one : goal.invariant-loop-one
invariant-loop-one l = l.lists ≡ map emptied (take l.one-index l.fn.lists) ++ drop l.one-index l.fn.lists
