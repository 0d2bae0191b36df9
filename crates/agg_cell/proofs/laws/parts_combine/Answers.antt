use Rattle.agg_cell.proofs.Combining.{parts}
use Rattle.agg_cell.proofs.laws.parts_combine.Goals as goal

pub returns : goal.returns
returns c = parts
