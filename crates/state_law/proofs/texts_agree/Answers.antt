use Rattle.state_law.proofs.Laws.{texts_agree}
use Rattle.state_law.proofs.texts_agree.Goals as goal

pub returns : goal.returns
returns c = texts_agree c.text_answers.ensures
