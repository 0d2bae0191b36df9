use Rattle.dshash_parts.specs.Uses.{IsAtHome}
use Rattle.uses_table.proofs.parts.drain_all.Given as goal

abbrev pub invariant-loop-partition : goal.invariant-loop-partition
invariant-loop-partition g l = record { home : IsAtHome l.r l.area l.table 1 l.pass l.apass }
