use Rattle.state_body.proofs.Bodies.{IsBodyTo}
use Rattle.state_body.proofs.body.read_blocks.Given as goal

abbrev pub invariant-loop : goal.invariant-loop
invariant-loop l = IsBodyTo l.columns l.kinds l.bytes l.fn.index l.index l.rest l.counter
