use Rattle.state_answers.proofs.Sent.{finalizes_agree}
use Rattle.state_answers.proofs.finalizes_agree.Goals as goal

pub returns : goal.returns
returns c = finalizes_agree c.answers_agree.ensures c.finalize_answers.ensures
