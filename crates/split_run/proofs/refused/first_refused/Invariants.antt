use Rattle.std.proofs.Common.{All, drop, take}
use Rattle.partial_agg.specs.Rows.{IsAccepted, header_width}
use Rattle.split_run.proofs.refused.first_refused.Given as goal

-- none of the rows so far is refused
abbrev pub invariant-loop-before : goal.invariant-loop-before
invariant-loop-before l = All (IsAccepted l.plan (header_width l.rows)) (take l.before (drop 1 l.rows))
