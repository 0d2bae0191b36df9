use Rattle.std.proofs.Common.{◌∙◌, subst, sym}
use Rattle.partial_agg.specs.Fitting.{FitsItems, IsFitted}
use Rattle.partial_agg.proofs.states.is_known.Goals as goal

pub returns-in-Some : goal.returns-in-Some
returns-in-Some c = λ layout fits t.
    subst (FitsItems layout) (sym c.as_slice.ensures.value ∙ c.same_items.ensures t) (subst (IsFitted layout) c.in-Some.is fits)
