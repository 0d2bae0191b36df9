use Rattle.state_once.proofs.Heads.{front_is_once}
use Rattle.state_once.proofs.front_is_once.Goals as goal

pub returns : goal.returns
returns c = front_is_once
