use Rattle.state_answers.proofs.Parts.{part_is_sent}
use Rattle.state_answers.proofs.part_is_sent.Goals as goal

pub returns : goal.returns
returns c = part_is_sent
