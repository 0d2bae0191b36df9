use Rattle.state_answers.proofs.Sent.{finalize_answers}
use Rattle.state_answers.proofs.finalize_answers.Goals as goal

pub returns : goal.returns
returns c = finalize_answers c.table_answers.ensures
