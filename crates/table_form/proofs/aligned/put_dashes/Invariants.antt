use Rattle.std.proofs.Common.{◌≡◌, ◌++◌, replicate, take}
use Rattle.std.specs.List.{join_by}
use Rattle.table_form.specs.Aligned.{gap}
use Rattle.table_form.proofs.aligned.put_dashes.Given as goal

-- the dashes so far
abbrev pub invariant-columns : goal.invariant-columns
invariant-columns l = l.out.items ≡ l.fn.out.items ++ join_by (λ size. replicate size 45) gap (take l.at l.sizes)
