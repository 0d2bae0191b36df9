use Rattle.state_answers.proofs.Answers.{tile_reading_is_made}
use Rattle.state_answers.proofs.tile_reading_is_made.Goals as goal

pub returns : goal.returns
returns c = tile_reading_is_made c.ask_for_one.ensures
