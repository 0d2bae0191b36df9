use Rattle.state_answers.proofs.Sent.{finalize_refuses}
use Rattle.state_answers.proofs.finalize_refuses.Goals as goal

pub returns : goal.returns
returns c = finalize_refuses c.refusal_is_first.ensures
