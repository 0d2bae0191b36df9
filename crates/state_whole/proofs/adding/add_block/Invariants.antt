use Rattle.state_whole.proofs.Adds.{IsAddedTo}
use Rattle.state_whole.proofs.adding.add_block.Given as goal

abbrev pub invariant-loop : goal.invariant-loop
invariant-loop l = IsAddedTo l.shape l.kept l.part l.rest l.fn.map l.fn.order l.fn.count l.map l.order l.count l.counter
