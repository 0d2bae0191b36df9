use Rattle.state_runs.proofs.Putting.{IsPutTo}
use Rattle.state_runs.proofs.saving.push_run.Given as goal

abbrev pub invariant-loop-at : goal.invariant-loop-at
invariant-loop-at l = IsPutTo l.run l.at l.fn.writer l.fn.out.items l.writer l.out.items
