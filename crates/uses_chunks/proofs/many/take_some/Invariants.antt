use Rattle.uses_chunks.specs.Ready.{IsReady}
use Rattle.uses_chunks.proofs.many.take_some.Given as goal

abbrev pub invariant-loop-turn : goal.invariant-loop-turn
invariant-loop-turn g l = record { ready : IsReady l.r l.area l.table l.pass l.apass }
