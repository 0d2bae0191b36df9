use Rattle.std.proofs.Common.{take}
use Rattle.csv.specs.Writing.{default_writer, escaped}
use Rattle.answer_text.specs.Held.{Puts}
use Rattle.answer_text.proofs.record.put_escaped.Given as goal

-- the bytes so far
abbrev pub invariant-loop-byte : goal.invariant-loop-byte
invariant-loop-byte g l = Puts g.O.Sink.taken g.O.Sink.faults l.fn.out l.out l.fn.held l.held (escaped default_writer (take l.byte-index l.field))
