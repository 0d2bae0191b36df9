use Rattle.state_answers.proofs.Answers.{one_file_is_made}
use Rattle.state_answers.proofs.one_file_is_made.Goals as goal

pub returns : goal.returns
returns c = one_file_is_made
