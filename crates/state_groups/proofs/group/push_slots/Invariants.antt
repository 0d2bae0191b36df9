use Rattle.std.proofs.Common.{◌≡◌, ◌++◌, take}
use Rattle.state_groups.specs.Group.{slots_bytes}
use Rattle.state_groups.proofs.group.push_slots.Given as goal

abbrev pub invariant-loop-at : goal.invariant-loop-at
invariant-loop-at l = l.out.items ≡ l.fn.out.items ++ slots_bytes (take l.at l.kinds) (take l.at l.slots)
