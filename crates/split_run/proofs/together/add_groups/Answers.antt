use Rattle.std.proofs.Common.{◌≡◌, List, Some, subst}
use Rattle.std.specs.Prelude.{slice_get}
use Rattle.partial_agg.specs.declared.groups.Group.{Group}
use Rattle.split_run.proofs.Joining.{added_next}
use Rattle.split_run.proofs.together.add_groups.Goals as goal

pub loop-at-preserved : goal.loop-at-preserved
loop-at-preserved c =
    added_next c.args.groups c.args.others c.loop-at.groups c.add.new.self c.loop-at.at c.get-group.result
    (subst (λ (l : List Group). slice_get l c.loop-at.at ≡ Some c.get-group.result) c.into_groups-list.ensures c.get-group.ensures) c.loop-at.invariant c.in_ok-add.ensures.ok
