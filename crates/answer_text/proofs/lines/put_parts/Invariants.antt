use Rattle.std.proofs.Common.{◌*◌, take}
use Rattle.answer_text.specs.Held.{Puts}
use Rattle.answer_text.proofs.Joined.{lines_text}
use Rattle.answer_text.proofs.lines.put_parts.Given as goal

-- the ranges so far
abbrev pub invariant-loop-at : goal.invariant-loop-at
invariant-loop-at g l = Puts g.O.Sink.taken g.O.Sink.faults l.fn.out l.out l.fn.held l.held (lines_text (g.L.Lines.record_of l.lines) (take (l.at * 16384) l.items))
