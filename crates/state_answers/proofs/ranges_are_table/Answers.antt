use Rattle.state_answers.proofs.Cats.{ranges_are_table}
use Rattle.state_answers.proofs.ranges_are_table.Goals as goal

pub returns : goal.returns
returns c = ranges_are_table c.sent_groups_are_all.ensures c.ranges_answer.ensures
