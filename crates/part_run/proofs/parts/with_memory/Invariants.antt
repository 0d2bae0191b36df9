use Rattle.std.proofs.Common.{◌≡◌}
use Rattle.part_run.specs.Waiting.{groups_in}
use Rattle.part_run.proofs.parts.with_memory.Given as goal

abbrev pub invariant-loop-groups : goal.invariant-loop-groups
invariant-loop-groups l = groups_in l.parts.items ≡ l.yielded
