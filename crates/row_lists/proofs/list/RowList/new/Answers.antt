use Rattle.std.proofs.Common.{[], refl}
use Rattle.row_lists.specs.Carried.{rows_from}
use Rattle.row_lists.proofs.Rows.{are_rows}
use Rattle.row_lists.proofs.list.RowList.new.Goals as goal

pub invariant_of-result : goal.invariant_of-result
invariant_of-result c = rw c.new.ensures.items (are_rows [] tt)

pub returns : goal.returns
unfolding rows_from
returns c = rw c.new.ensures.items refl
