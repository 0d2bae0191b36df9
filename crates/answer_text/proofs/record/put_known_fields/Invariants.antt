use Rattle.std.proofs.Common.{take}
use Rattle.csv.specs.Writing.{default_writer, row_body}
use Rattle.answer_text.specs.Held.{Puts}
use Rattle.answer_text.proofs.record.put_known_fields.Given as goal

-- the fields so far
abbrev pub invariant-loop-at : goal.invariant-loop-at
invariant-loop-at g l = Puts g.O.Sink.taken g.O.Sink.faults l.fn.out l.out l.fn.held l.held (row_body default_writer (take l.at l.row))
