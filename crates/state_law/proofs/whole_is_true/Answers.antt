use Rattle.state_law.proofs.Laws.{whole_is_true}
use Rattle.state_law.proofs.whole_is_true.Goals as goal

pub returns : goal.returns
returns c = whole_is_true
