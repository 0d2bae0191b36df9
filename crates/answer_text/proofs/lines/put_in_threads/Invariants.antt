use Rattle.std.proofs.Common.{◌≤◌, ◌-◌, length, take}
use Rattle.answer_text.specs.Held.{Puts}
use Rattle.answer_text.proofs.Joined.{lines_text}
use Rattle.answer_text.proofs.lines.put_in_threads.Given as goal

-- the rounds so far
abbrev pub invariant-rounds : goal.invariant-rounds
invariant-rounds g l = record { within : l.at ≤ length l.items; puts : Puts g.O.Sink.taken g.O.Sink.faults l.fn.out l.out l.fn.held l.held (lines_text (g.L.Lines.record_of l.lines) (take l.at l.items)) }

abbrev pub decreases-rounds : goal.decreases-rounds
decreases-rounds g l = length l.items - l.at
