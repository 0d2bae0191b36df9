use Rattle.std.proofs.Common.{◌≡◌, replicate}
use Rattle.part_run.specs.Carrying.{no_rows}
use Rattle.part_run.proofs.parts.empty_lists.Given as goal

abbrev pub invariant-loop-at : goal.invariant-loop-at
invariant-loop-at l = l.lists.items ≡ replicate l._at no_rows
