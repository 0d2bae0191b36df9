use Rattle.state_runs.proofs.Whole.{parts_groups, parts_whole}
use Rattle.state_runs.proofs.all.AllGroups.of_parts.Goals as goal

pub invariant_of-result : goal.invariant_of-result
invariant_of-result c = let r = c.requires in parts_whole r.0 r.1 r.2 c.args.maps.items r.3 r.4

pub returns : goal.returns
returns c = λ plan width rows few parted. parts_groups plan width rows c.args.maps.items few parted
