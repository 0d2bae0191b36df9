use Rattle.state_range.proofs.Texts.{ranges_answer}
use Rattle.state_range.proofs.laws.ranges_answer.Goals as goal

pub returns : goal.returns
returns c = ranges_answer
