use Rattle.std.proofs.Common.{◌≡◌, map}
use Rattle.state_tables.specs.declared.finishing.Job.{Job}
use Rattle.state_tables.proofs.finishing.jobs_of.Given as goal

abbrev pub invariant-loop-range : goal.invariant-loop-range
invariant-loop-range l = map (λ (job : Job). job.range) l.jobs.items ≡ l.yielded
