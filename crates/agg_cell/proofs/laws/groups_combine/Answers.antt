use Rattle.agg_cell.proofs.Rows.{groups}
use Rattle.agg_cell.proofs.laws.groups_combine.Goals as goal

pub returns : goal.returns
returns c = groups
