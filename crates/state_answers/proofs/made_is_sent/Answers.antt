use Rattle.state_answers.proofs.Parts.{made_is_sent}
use Rattle.state_answers.proofs.made_is_sent.Goals as goal

pub returns : goal.returns
returns c = made_is_sent
