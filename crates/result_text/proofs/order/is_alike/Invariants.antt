use Rattle.std.proofs.Common.{◌≡◌, ◌-◌}
use Rattle.result_text.specs.KeyColumns.{lengths_in}
use Rattle.result_text.proofs.order.is_alike.Given as goal

-- the columns that are left decide
abbrev pub invariant-loop-at : goal.invariant-loop-at
invariant-loop-at l = lengths_in (l.columns - l._at) l.right ≡ lengths_in (l.columns - l._at) l.left → lengths_in l.columns l.b ≡ lengths_in l.columns l.a
