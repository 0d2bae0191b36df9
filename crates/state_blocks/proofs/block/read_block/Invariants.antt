use Rattle.state_blocks.proofs.Tuples.{IsBlockTo}
use Rattle.state_blocks.proofs.block.read_block.Given as goal

abbrev pub invariant-loop-at : goal.invariant-loop-at
invariant-loop-at l = IsBlockTo l.columns l.kinds l.bytes l.rest l.at
