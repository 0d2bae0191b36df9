use Rattle.std.proofs.Common.{◌≤◌, ◌∙◌, List, ap, length, subst, sym}
use Rattle.state_lanes.specs.Lanes.{kinds_of}
use Rattle.state_lanes.specs.declared.lanes.Lane.{Lane}
use Rattle.state_plan.proofs.file_plan.FilePlan.shape.Goals as goal

pub returns-clause-fits : goal.returns-clause-fits
returns-clause-fits c = λ s is. record {
  kinds = c.as_slice-2.ensures.value ∙ is.kinds ∙ ap kinds_of (sym (c.as_slice.ensures.value ∙ is.lanes));
  lanes = subst (λ (ls : List Lane). length ls ≤ 8) (sym c.as_slice.ensures.value) is.few;
  items = c.items.ensures.few;
}
