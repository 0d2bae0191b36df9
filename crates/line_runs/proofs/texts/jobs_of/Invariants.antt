use Rattle.std.proofs.Common.{◌≡◌, map}
use Rattle.line_runs.specs.declared.texts.Job.{Job}
use Rattle.line_runs.proofs.texts.jobs_of.Given as goal

abbrev pub invariant-loop-map : goal.invariant-loop-map
invariant-loop-map l = map (λ (job : Job). job.map) l.jobs.items ≡ l.yielded
