use Rattle.good_rows.specs.Judging.{GoesOn}
use Rattle.good_rows.proofs.line.line_end.Given as goal

-- the bytes so far go on with the line
abbrev pub invariant-bytes : goal.invariant-bytes
invariant-bytes l = GoesOn l.fn.start l.bytes l.at l.place
