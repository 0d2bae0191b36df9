use Rattle.std.proofs.Common.{[], refl}
use Rattle.row_lists.specs.Carried.{rows_from}
use Rattle.row_lists.proofs.Rows.{are_rows}
use Rattle.row_lists.proofs.list.RowList.clear.Goals as goal

pub invariant_of-self : goal.invariant_of-self
invariant_of-self c = rw c.clear.ensures.items (are_rows [] tt)

pub returns : goal.returns
unfolding rows_from
returns c = rw c.clear.ensures.items refl
