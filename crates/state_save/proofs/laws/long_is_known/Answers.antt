use Rattle.state_save.proofs.Fitting.{long_known}
use Rattle.state_save.proofs.laws.long_is_known.Goals as goal

pub returns : goal.returns
returns c = long_known
