use Rattle.std.proofs.Common.{◌∙◌, ap, inr}
use Rattle.partial_agg.specs.Groups.{GroupsByKey}
use Rattle.partial_agg.specs.Listed.{listed}
use Rattle.state_combine.proofs.Files.{is_refused, no_groups}
use Rattle.state_combine.proofs.combining.groups_beside.Goals as goal

pub returns-in-Some : goal.returns-in-Some
returns-in-Some c =
    inr (is_refused c.args.cover.now c.in-Some.field-0 c.in-Some.ensures.first, c.into_groups.ensures ∙ ap (λ (m : GroupsByKey). listed m) c.new.ensures.empty ∙ no_groups)
