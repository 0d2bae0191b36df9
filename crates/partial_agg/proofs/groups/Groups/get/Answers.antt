use Rattle.partial_agg.proofs.Placed.{group_of_parts}
use Rattle.partial_agg.proofs.groups.Groups.get.Goals as goal

pub returns : goal.returns
returns c = group_of_parts c.args.self.now c.args.at c.copy_of.result c.key.result.now c.state.result c.copy_of.ensures c.key.ensures.key c.state.ensures
