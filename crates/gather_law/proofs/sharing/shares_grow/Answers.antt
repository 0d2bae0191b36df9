use Rattle.gather_law.proofs.RowShares.{shares_grow}
use Rattle.gather_law.proofs.sharing.shares_grow.Goals as goal

pub returns : goal.returns
returns c = shares_grow
