use Rattle.std.proofs.Common.{◌≡◌, ◌-◌}
use Rattle.table_order.specs.Lines.{after_fields}
use Rattle.table_order.proofs.line.field.Given as goal

abbrev pub invariant-loop-at : goal.invariant-loop-at
invariant-loop-at l = after_fields (l.column - l._at) l.left ≡ after_fields l.column l.line
