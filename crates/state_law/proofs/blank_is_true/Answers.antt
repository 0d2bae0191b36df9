use Rattle.state_law.proofs.Blank.{blank_is_true}
use Rattle.state_law.proofs.blank_is_true.Goals as goal

pub returns : goal.returns
returns c = blank_is_true
