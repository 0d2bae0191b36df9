use Rattle.state_law.proofs.Read.{combined_is_read}
use Rattle.state_law.proofs.combined_is_read.Goals as goal

pub returns : goal.returns
returns c = combined_is_read c.sum_is_told.ensures
