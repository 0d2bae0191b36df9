use Rattle.row_windows.proofs.Seams.{records_add_up}
use Rattle.row_windows.proofs.law.records_add_up.Goals as goal

pub returns : goal.returns
returns c = records_add_up
