use Rattle.agg_law.proofs.Gathering.{gathers}
use Rattle.agg_law.proofs.table_gathers.Goals as goal

pub returns : goal.returns
returns c = gathers
