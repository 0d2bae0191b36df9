use Rattle.state_answers.proofs.Sent.{sent_groups_are_all}
use Rattle.state_answers.proofs.sent_groups_are_all.Goals as goal

pub returns : goal.returns
returns c = sent_groups_are_all c.groups_are_all.ensures
