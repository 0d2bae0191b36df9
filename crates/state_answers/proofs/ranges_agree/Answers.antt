use Rattle.state_answers.proofs.Cats.{ranges_agree}
use Rattle.state_answers.proofs.ranges_agree.Goals as goal

pub returns : goal.returns
returns c = ranges_agree c.answers_agree.ensures c.finalize_answers.ensures c.ranges_are_table.ensures
