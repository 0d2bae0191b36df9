use Rattle.state_law.proofs.Laws.{text_answers}
use Rattle.state_law.proofs.text_answers.Goals as goal

pub returns : goal.returns
returns c = text_answers c.sum_is_all.ensures
