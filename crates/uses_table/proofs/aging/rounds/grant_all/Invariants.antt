use Rattle.dshash_parts.specs.Uses.{IsAtHome}
use Rattle.uses_table.proofs.aging.rounds.grant_all.Given as goal

abbrev pub invariant-loop-each : goal.invariant-loop-each
invariant-loop-each g l = record { home : IsAtHome l.r l.area l.leases 1 l.pass l.apass }
