use Rattle.state_answers.proofs.Answers.{refusal_is_first}
use Rattle.state_answers.proofs.refusal_is_first.Goals as goal

pub returns : goal.returns
returns c = refusal_is_first c.made_is_true.ensures c.row_is_first.ensures
