use Rattle.text_lines.specs.Begins.{EndsBefore}
use Rattle.text_lines.proofs.begin.records_end.Given as goal

-- this many records end here
abbrev pub invariant-records : goal.invariant-records
invariant-records l = record { ends : EndsBefore l.lines l._at l.end }
