use Rattle.uses_chunks.specs.Ready.{IsReady}
use Rattle.uses_chunks.proofs.many.keep_all.Given as goal

abbrev pub invariant-loop-key : goal.invariant-loop-key
invariant-loop-key g l = record { ready : IsReady l.r l.area l.table l.pass l.apass }
