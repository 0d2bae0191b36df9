use Rattle.std.proofs.Common.{◌≡◌, Ok, map}
use Rattle.line_runs.specs.declared.texts.Job.{Job}
use Rattle.line_runs.proofs.texts.take_runs.Given as goal

abbrev pub invariant-loop-job : goal.invariant-loop-job
invariant-loop-job l = map Ok l.runs.items ≡ map (λ (job : Job). job.run) l.yielded
