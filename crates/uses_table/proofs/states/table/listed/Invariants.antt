use Rattle.dshash_parts.specs.Tables.{Belongs}
use Rattle.uses_table.proofs.states.table.listed.Given as goal

abbrev pub invariant-loop-number : goal.invariant-loop-number
invariant-loop-number g l = Belongs l.table l.pass
