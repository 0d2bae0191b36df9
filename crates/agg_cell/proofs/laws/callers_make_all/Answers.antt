use Rattle.agg_cell.proofs.Callers.{callers}
use Rattle.agg_cell.proofs.laws.callers_make_all.Goals as goal

pub returns : goal.returns
returns c = callers
