use Rattle.gather_law.proofs.RowShares.{blocks_cover}
use Rattle.gather_law.proofs.sharing.blocks_cover.Goals as goal

pub returns : goal.returns
returns c = blocks_cover
