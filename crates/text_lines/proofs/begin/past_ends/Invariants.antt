use Rattle.text_lines.specs.Begins.{AllEndFrom}
use Rattle.text_lines.proofs.begin.past_ends.Given as goal

-- only lines end so far
abbrev pub invariant-ends : goal.invariant-ends
invariant-ends l = AllEndFrom l.bytes l.from l.at
