use Rattle.std.proofs.Common.{◌∙◌, ap, length, subst, sym}
use Rattle.partial_agg.specs.Listed.{listed_at}
use Rattle.partial_agg.specs.Placed.{AreListed}
use Rattle.partial_agg.proofs.groups.Groups.lent.Goals as goal

pub of_parts-requires : goal.of_parts-requires
of_parts-requires c = subst (AreListed c.self.inside.keys (length c.self.inside.states)) (sym c.as_slice.ensures.value) c.self.invariant.listed

pub returns : goal.returns
returns c = c.of_parts.ensures ∙ ap (listed_at c.self.inside.keys c.self.inside.states) c.as_slice.ensures.value ∙ c.self.view_is
