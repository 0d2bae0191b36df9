use Rattle.gather_law.proofs.RowShares.{shares_join}
use Rattle.gather_law.proofs.sharing.shares_join.Goals as goal

pub returns : goal.returns
returns c = shares_join
