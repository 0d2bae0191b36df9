use Rattle.state_answers.proofs.Answers.{table_answers}
use Rattle.state_answers.proofs.table_answers.Goals as goal

pub returns : goal.returns
returns c = table_answers c.made_is_true.ensures c.text_answers.ensures
