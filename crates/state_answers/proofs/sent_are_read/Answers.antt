use Rattle.state_answers.proofs.Sent.{sent_are_read}
use Rattle.state_answers.proofs.sent_are_read.Goals as goal

pub returns : goal.returns
returns c = sent_are_read
