use Rattle.state_answers.proofs.Parts.{tile_is_sent}
use Rattle.state_answers.proofs.tile_is_sent.Goals as goal

pub returns : goal.returns
returns c = tile_is_sent
