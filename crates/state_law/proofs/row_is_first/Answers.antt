use Rattle.state_law.proofs.Laws.{row_is_first}
use Rattle.state_law.proofs.row_is_first.Goals as goal

pub returns : goal.returns
returns c = row_is_first
