use Rattle.state_answers.proofs.Answers.{reading_is_made}
use Rattle.state_answers.proofs.reading_is_made.Goals as goal

pub returns : goal.returns
returns c = reading_is_made c.ask_for_one.ensures
