use Rattle.join_pairs.proofs.Joining.{joins}
use Rattle.join_pairs.proofs.laws.pairs_are_join.Goals as goal

pub returns : goal.returns
returns c = joins
