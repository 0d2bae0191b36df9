use Rattle.state_answers.proofs.Answers.{tables_agree}
use Rattle.state_answers.proofs.tables_agree.Goals as goal

pub returns : goal.returns
returns c = tables_agree c.ask_for_one.ensures c.answers_agree.ensures c.table_answers.ensures
