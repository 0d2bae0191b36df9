use Rattle.state_law.proofs.Laws.{tile_is_true}
use Rattle.state_law.proofs.tile_is_true.Goals as goal

pub returns : goal.returns
returns c = tile_is_true
