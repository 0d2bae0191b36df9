use Rattle.state_answers.proofs.Sent.{cat_is_sent}
use Rattle.state_answers.proofs.cat_is_sent.Goals as goal

pub returns : goal.returns
returns c = cat_is_sent
