use Rattle.state_answers.proofs.Asked.{ask_for_one}
use Rattle.state_answers.proofs.ask_for_one.Goals as goal

pub returns : goal.returns
returns c = ask_for_one
