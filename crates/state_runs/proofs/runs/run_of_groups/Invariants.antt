use Rattle.std.proofs.Common.{◌≡◌, map, take}
use Rattle.state_runs.specs.Runs.{entry_of}
use Rattle.state_save.specs.Saving.{tuples_at}
use Rattle.state_runs.proofs.runs.run_of_groups.Given as goal

-- the run has the tuples of the groups so far
abbrev pub invariant-loop-group : goal.invariant-loop-group
invariant-loop-group l = l.run ≡ map (entry_of l.shape.kinds.now) (tuples_at l.shape l.groups (take l.group-index l.refs))
