use Rattle.partial_agg.proofs.Joining.{maps_add}
use Rattle.partial_agg.proofs.laws.maps_add.Goals as goal

pub returns : goal.returns
returns c = maps_add
