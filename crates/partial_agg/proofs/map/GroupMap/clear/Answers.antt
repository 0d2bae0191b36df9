use Rattle.partial_agg.proofs.Grouped.{none_grouped}
use Rattle.partial_agg.proofs.map.GroupMap.clear.Goals as goal

pub invariant_of-self : goal.invariant_of-self
invariant_of-self c = rw (c.clear.ensures, c.truncate.ensures, c.clear-2.ensures.items) (none_grouped _ _)
