use Rattle.state_answers.proofs.Sent.{combine_is_sent}
use Rattle.state_answers.proofs.combine_is_sent.Goals as goal

pub returns : goal.returns
returns c = combine_is_sent c.made_is_true.ensures c.combined_is_read.ensures c.one_file_is_made.ensures
