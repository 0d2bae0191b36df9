use Rattle.gather_law.proofs.Gathering.{combines}
use Rattle.gather_law.proofs.tuples_combine.Goals as goal

pub returns : goal.returns
returns c = combines
