use Rattle.state_keep.proofs.Keeps.{IsKeptTo}
use Rattle.state_keep.proofs.keep.keep_block.Given as goal

abbrev pub invariant-loop : goal.invariant-loop
invariant-loop l = IsKeptTo l.shape l.kept l.part l.rest l.fn.map l.map l.counter
