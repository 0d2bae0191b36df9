use Rattle.std.proofs.Common.{ap}
use Rattle.state_runs.specs.Whole.{whole_of}
use Rattle.state_runs.proofs.Whole.{none_whole}
use Rattle.state_runs.proofs.all.AllGroups.none.Goals as goal

pub invariant_of-result : goal.invariant_of-result
invariant_of-result c = none_whole c.new.result.items c.new.ensures.items

pub returns : goal.returns
returns c = ap whole_of c.new.ensures.items
