use Rattle.std.proofs.Common.{◌≡◌, ◌++◌, map}
use Rattle.join_kinds.specs.declared.outer.JoinedRow.TheVariants.{RightOnly}
use Rattle.join_kinds.proofs.outer.add_lone.Given as goal

abbrev pub invariant-loop-row : goal.invariant-loop-row
invariant-loop-row l = l.joined.items ≡ l.initial.joined.items ++ map RightOnly l.yielded
