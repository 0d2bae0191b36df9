use Rattle.gather_law.proofs.RowShares.{pieces_cover}
use Rattle.gather_law.proofs.sharing.pieces_cover.Goals as goal

pub returns : goal.returns
returns c = pieces_cover
