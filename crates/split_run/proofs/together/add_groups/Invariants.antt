use Rattle.std.proofs.Common.{◌≡◌, fold, take}
use Rattle.std.specs.FinMap as map
use Rattle.partial_agg.specs.Groups.{GroupsByKey, added}
use Rattle.split_run.proofs.together.add_groups.Given as goal

abbrev pub invariant-loop-at : goal.invariant-loop-at
invariant-loop-at l = l.groups ≡ fold (λ (so_far : GroupsByKey) entry. added so_far entry.0 entry.1) l.initial.groups (take l.at (map.entries l.fn.others))
