use Rattle.std.proofs.Common.{◌≡◌, Ok, map}
use Rattle.state_runs.specs.declared.runs.Job.{Job}
use Rattle.state_runs.proofs.runs.take_runs.Given as goal

abbrev pub invariant-loop-job : goal.invariant-loop-job
invariant-loop-job l = map Ok l.runs.items ≡ map (λ (job : Job). job.run) l.yielded
