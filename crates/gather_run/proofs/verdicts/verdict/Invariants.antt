use Rattle.std.proofs.Common.{map, take}
use Rattle.parallel_ctx.specs.declared.home.Returned.{Returned}
use Rattle.worker_run.specs.Verdicts.{AreVerdict}
use Rattle.worker_run.specs.declared.WorkerEnd.{WorkerEnd}
use Rattle.gather_run.proofs.verdicts.verdict.Given as goal

abbrev pub invariant-loop-worker : goal.invariant-loop-worker
invariant-loop-worker l = record { so_far : AreVerdict (map (λ (w : Returned WorkerEnd). w.end) (take l.worker-index l.workers)) l.verdict }
