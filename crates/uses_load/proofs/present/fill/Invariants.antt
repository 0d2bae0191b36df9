use Rattle.uses_load.specs.Passes.{HasBoth}
use Rattle.uses_load.proofs.present.fill.Given as goal

abbrev pub invariant-loop-key : goal.invariant-loop-key
invariant-loop-key g l = HasBoth l.table l.area l.passes
