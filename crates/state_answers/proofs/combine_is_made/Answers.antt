use Rattle.state_answers.proofs.Sent.{combine_is_made}
use Rattle.state_answers.proofs.combine_is_made.Goals as goal

pub returns : goal.returns
returns c = combine_is_made c.one_file_is_made.ensures
