use Rattle.std.proofs.Common.{arith}
use Rattle.found_rows.proofs.found.FoundRows.next.Goals as goal

pub invariant_of-self-in-Err : goal.invariant_of-self-in-Err
invariant_of-self-in-Err c = record {
  within = omega arith;
  lines = c.self.invariant.lines;
  block = c.in-Err.ensures.block;
  reached = c.in-Err.ensures.block.within;
  spans = c.clear.ensures.spans c.self.inside.text.now;
}
