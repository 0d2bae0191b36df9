use Rattle.gather_law.proofs.RowShares.{shares_begin}
use Rattle.gather_law.proofs.sharing.shares_begin.Goals as goal

pub returns : goal.returns
returns c = shares_begin
