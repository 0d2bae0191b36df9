use Rattle.dshash_parts.specs.Uses.{IsAtHome}
use Rattle.uses_table.proofs.tests.keeps_all.Given as goal

abbrev pub invariant-loop-number : goal.invariant-loop-number
invariant-loop-number g l = record { home : IsAtHome l.r l.area l.cache 32 l.pass l.apass }
