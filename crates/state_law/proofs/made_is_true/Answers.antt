use Rattle.state_law.proofs.Trees.{made_is_true}
use Rattle.state_law.proofs.made_is_true.Goals as goal

pub returns : goal.returns
returns c = made_is_true c.combined_is_true.ensures
