use Rattle.dshash_parts.specs.Uses.{IsAtHome}
use Rattle.uses_table.proofs.parts.drain.Given as goal

abbrev pub invariant-loop : goal.invariant-loop
invariant-loop g l = record { home : IsAtHome l.r l.area l.table 1 l.pass l.apass }
