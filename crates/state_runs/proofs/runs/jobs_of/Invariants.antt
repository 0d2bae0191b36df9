use Rattle.std.proofs.Common.{◌≡◌, map}
use Rattle.state_runs.specs.declared.runs.Job.{Job}
use Rattle.state_runs.proofs.runs.jobs_of.Given as goal

abbrev pub invariant-loop-map : goal.invariant-loop-map
invariant-loop-map l = map (λ (job : Job). job.map) l.jobs.items ≡ l.yielded
