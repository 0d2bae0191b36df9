use Rattle.std.proofs.Common.{◌≤◌, ◌-◌, length, take}
use Rattle.answer_text.specs.Held.{Puts}
use Rattle.order_query.specs.Pieces.{rows_text}
use Rattle.order_query.proofs.rows.put_rows.Given as goal

-- the rows so far
abbrev pub invariant-stretches : goal.invariant-stretches
invariant-stretches g l = record { within : l.at ≤ length l.numbers; puts : Puts g.O.Sink.taken g.O.Sink.faults l.fn.out l.out l.fn.held l.held (rows_text l.rows (take l.at l.numbers)) }

abbrev pub decreases-stretches : goal.decreases-stretches
decreases-stretches g l = length l.numbers - l.at
