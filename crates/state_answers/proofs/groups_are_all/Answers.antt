use Rattle.state_answers.proofs.Answers.{groups_are_all}
use Rattle.state_answers.proofs.groups_are_all.Goals as goal

pub returns : goal.returns
returns c = groups_are_all c.made_is_true.ensures c.sum_is_all.ensures
