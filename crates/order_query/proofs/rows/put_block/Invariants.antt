use Rattle.std.proofs.Common.{take}
use Rattle.answer_text.specs.Held.{Puts}
use Rattle.order_query.specs.Pieces.{rows_text}
use Rattle.order_query.proofs.rows.put_block.Given as goal

-- the rows so far
abbrev pub invariant-loop-at : goal.invariant-loop-at
invariant-loop-at g l = Puts g.O.Sink.taken g.O.Sink.faults l.fn.out l.out l.fn.held l.held (rows_text l.rows (take l.at l.numbers))
