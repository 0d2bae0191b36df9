use Rattle.agg_cell.proofs.CellRuns.{cells}
use Rattle.agg_cell.proofs.laws.cells_combine.Goals as goal

pub returns : goal.returns
returns c = cells
