use Rattle.chunk_table.specs.Tables.{Belongs}
use Rattle.uses_chunks.proofs.many.listed.Given as goal

abbrev pub invariant-loop-partition : goal.invariant-loop-partition
invariant-loop-partition g l = record { own : Belongs l.table l.pass }
