use Rattle.std.proofs.Common.{◌∙◌, List, ap, subst, sym}
use Rattle.std.proofs.lemmas.Result.{IfOk-weaker}
use Rattle.partial_agg.specs.Groups.{GroupsByKey}
use Rattle.part_run.specs.Held.{HeldParts}
use Rattle.part_run.specs.Waiting.{GroupsAll}
use Rattle.part_run.proofs.parts.Parts.finish.Goals as goal

pub returns : goal.returns
returns g c =
    IfOk-weaker c.bare_maps.result _ _ (λ maps e.
    subst (λ (ms : List GroupsByKey). GroupsAll c.args.self ms) (sym (e ∙ ap (λ (p : HeldParts). p.maps) c.self.view_is)) c.in_ok-group.ensures.all) c.bare_maps.ensures
