use Rattle.dshash_parts.specs.Uses.{IsAtHome}
use Rattle.uses_table.proofs.crowded.put_all.Given as goal

abbrev pub invariant-loop-number : goal.invariant-loop-number
invariant-loop-number g l = record { home : IsAtHome l.r l.area l.table 7 l.pass l.apass }
