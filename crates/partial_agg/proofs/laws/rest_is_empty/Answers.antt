use Rattle.partial_agg.proofs.Rest.{rest_is_empty}
use Rattle.partial_agg.proofs.laws.rest_is_empty.Goals as goal

pub returns : goal.returns
returns c = rest_is_empty
