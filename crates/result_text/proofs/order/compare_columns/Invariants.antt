use Rattle.std.proofs.Common.{◌≡◌, ◌-◌}
use Rattle.par_model.specs.Table.{columns_cmp}
use Rattle.result_text.specs.KeyColumns.{columns_in}
use Rattle.result_text.proofs.order.compare_columns.Given as goal

-- the columns that are left decide
abbrev pub invariant-loop-at : goal.invariant-loop-at
invariant-loop-at l = columns_cmp (columns_in (l.columns - l._at) l.left) (columns_in (l.columns - l._at) l.right) ≡ columns_cmp (columns_in l.columns l.a) (columns_in l.columns l.b)
