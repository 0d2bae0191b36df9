use Rattle.uses_chunks.specs.Ready.{IsReady}
use Rattle.uses_chunks.proofs.many.take_half.Given as goal

abbrev pub invariant-loop-partition : goal.invariant-loop-partition
invariant-loop-partition g l = record { ready : IsReady l.r l.area l.table l.pass l.apass }
