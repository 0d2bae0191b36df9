use Rattle.state_keep.proofs.Blocks.{IsKeptUpTo}
use Rattle.state_keep.proofs.keep.keep_blocks.Given as goal

abbrev pub invariant-loop : goal.invariant-loop
invariant-loop l = IsKeptUpTo l.shape l.kept l.blocks l.rest l.fn.map l.map l.counter
