use Rattle.state_whole.proofs.Runs.{IsAddedUpTo}
use Rattle.state_whole.proofs.adding.add_blocks.Given as goal

abbrev pub invariant-loop : goal.invariant-loop
invariant-loop l = IsAddedUpTo l.shape l.kept l.blocks l.rest l.fn.map l.fn.order l.fn.count l.map l.order l.count l.counter
