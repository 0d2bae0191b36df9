use Rattle.order_query.specs.Pieces.{AreKnown}
use Rattle.order_query.proofs.rows.look_ahead.Given as goal

-- the rows so far
abbrev pub invariant-loop-place : goal.invariant-loop-place
invariant-loop-place l = record { known : AreKnown l.rows l.numbers l.begins l.place }
