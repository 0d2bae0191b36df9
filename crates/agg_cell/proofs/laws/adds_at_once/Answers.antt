use Rattle.agg_cell.proofs.AtOnce.{at_once}
use Rattle.agg_cell.proofs.laws.adds_at_once.Goals as goal

pub returns : goal.returns
returns c = at_once
