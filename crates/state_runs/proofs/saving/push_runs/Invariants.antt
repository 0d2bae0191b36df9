use Rattle.state_runs.proofs.Putting.{ArePutTo}
use Rattle.state_runs.proofs.saving.push_runs.Given as goal

abbrev pub invariant-loop-run : goal.invariant-loop-run
invariant-loop-run l = ArePutTo l.runs l.run-index l.fn.writer l.fn.out.items l.writer l.out.items
