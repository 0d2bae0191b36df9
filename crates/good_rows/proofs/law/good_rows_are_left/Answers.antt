use Rattle.good_rows.proofs.Left.{leaves_good_rows}
use Rattle.good_rows.proofs.law.good_rows_are_left.Goals as goal

pub returns : goal.returns
returns c = leaves_good_rows
