use Rattle.std.proofs.Common.{◌≡◌, ◌++◌, get_or, []}
use Rattle.std.specs.List.{join_by, range_with_len}
use Rattle.std.specs.Prelude.{nat_lt}
use Rattle.csv.specs.Records.{fields_of}
use Rattle.table_form.specs.Aligned.{aligned_cell, gap, shown}
use Rattle.table_form.proofs.aligned.put_row.Given as goal

-- the cells so far
abbrev pub invariant-fields : goal.invariant-fields
invariant-fields l = l.out.items ≡ l.fn.out.items ++ join_by (λ at. aligned_cell (nat_lt at l.keys) (get_or l.sizes at 0) (shown (get_or (fields_of l.row) at []))) gap (range_with_len 0 l.at)
