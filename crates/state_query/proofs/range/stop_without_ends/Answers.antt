use Rattle.std.proofs.Common.{[], ◌++◌, ◌∷◌, inr, length, subst, sym}
use Rattle.state_plan.specs.declared.file_plan.FilePlan.{FilePlan}
use Rattle.state_source.proofs.Rests.{of_as}
use Rattle.state_query.specs.Inputs.{IsLoaded}
use Rattle.state_query.specs.Ranges.{IsNoEnds, IsRangeReadStop}
use Rattle.state_query.proofs.Ranges.{no_ends}
use Rattle.state_query.proofs.range.stop_without_ends.Goals as goal

pub returns-in-Ok-clause-why : goal.returns-in-Ok-clause-why
returns-in-Ok-clause-why g c =
    let above = c.args.words.above.now in
    let below = c.args.words.below.now in
    let first = c.args.first.now.bytes.items in
    let l = c.in-Ok.field-0 in
    let why = c.args.why in
    of_as (g.S.Source.left c.args.source.now) (λ more. IsLoaded (record { low = 45 ∷ []; high = 45 ∷ [] }) (first ++ more) l) (λ more. IsRangeReadStop above below (first ++ more) why)
    (λ more is. inr (no_ends (first ++ more) l above below why is (subst (λ (p : FilePlan). IsNoEnds (length p.bound.groups) above below why) (sym c.in-Ok.ensures.plan) c.requires.why))) c.in-Ok.ensures.loaded
