use Rattle.std.proofs.Common.{◌++◌, ◌∷◌, ◌∙◌, [], List, ap}
use Rattle.partial_agg.specs.Groups.{GroupsByKey}
use Rattle.state_runs.specs.Whole.{whole_of}
use Rattle.state_runs.proofs.Whole.{one_whole}
use Rattle.state_runs.proofs.all.AllGroups.of_map.Goals as goal

pub invariant_of-result : goal.invariant_of-result
invariant_of-result c = one_whole c.push.new.self.items c.args.map (c.in_ok-push.ensures.items ∙ ap (λ (ms : List GroupsByKey). ms ++ c.args.map ∷ []) c.in_ok-maps.ensures.items)

pub returns : goal.returns
returns c = ap whole_of (c.in_ok-push.ensures.items ∙ ap (λ (ms : List GroupsByKey). ms ++ c.args.map ∷ []) c.in_ok-maps.ensures.items)
