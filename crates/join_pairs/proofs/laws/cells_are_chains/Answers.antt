use Rattle.join_pairs.proofs.Chained.{cells}
use Rattle.join_pairs.proofs.laws.cells_are_chains.Goals as goal

pub returns : goal.returns
returns c = cells
