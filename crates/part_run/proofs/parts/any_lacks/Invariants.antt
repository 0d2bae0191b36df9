use Rattle.std.proofs.Common.{take}
use Rattle.part_run.specs.Waiting.{LackNone}
use Rattle.part_run.proofs.parts.any_lacks.Given as goal

abbrev pub invariant-loop-map : goal.invariant-loop-map
invariant-loop-map l = LackNone (take l.map-index l.maps)
