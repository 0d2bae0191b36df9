use Rattle.std.proofs.Common.{◌≡◌, length}
use Rattle.dshash_parts.specs.Uses.{IsAtHome}
use Rattle.uses_table.proofs.aging.rounds.left_of.Given as goal

abbrev pub invariant-loop-key : goal.invariant-loop-key
invariant-loop-key g l = record { home : IsAtHome l.r l.area l.leases 1 l.pass l.apass; six : length l.left ≡ 6 }
