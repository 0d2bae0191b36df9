use Rattle.std.proofs.Common.{◌≡◌, ◌+◌, ◌++◌, ◌∷◌, ◌∙◌, [], ℕ, suc, List, Option, take, ap, arith, subst, sym}
use Rattle.std.proofs.lemmas.List.{take_all}
use Rattle.std.proofs.lemmas.List.Elements.{All-nil}
use Rattle.parallel_ctx.specs.declared.home.Returned.{Returned}
use Rattle.worker_run.specs.Verdicts.{AreVerdict, EndsWell}
use Rattle.worker_run.specs.declared.WorkerEnd.{WorkerEnd}
use Rattle.worker_run.proofs.Judging.{more_ends}
use Rattle.gather_merge.proofs.Together.{ends_of}
use Rattle.gather_merge.proofs.verdicts.verdict.Goals as goal

pub loop-worker-init : goal.loop-worker-init
loop-worker-init c = record { so_far = All-nil EndsWell }

pub loop-worker-preserved : goal.loop-worker-preserved
loop-worker-preserved c =
    let ws = c.args.workers.now in
    let k = c.loop-worker.worker-index in
    let done = ends_of (take k ws) in
    let more = more_ends (λ (w : Returned WorkerEnd). w.end) ws k c.worker-item.result c.loop-worker-test.true ∙ ap (λ (w : Returned WorkerEnd). done ++ w.end ∷ []) (sym c.worker-item.is) in
    let now = subst (λ (ends : List (Option WorkerEnd)). AreVerdict ends c.verdict_with-verdict.result) (sym more) (c.verdict_with-verdict.ensures done c.loop-worker.invariant.so_far) in
    let next : suc k ≡ k + 1 = omega arith in
    record { so_far = subst (λ (n : ℕ). AreVerdict (ends_of (take n ws)) c.verdict_with-verdict.result) next now }

pub returns : goal.returns
returns c =
    let ws = c.args.workers.now in
    let k = c.loop-worker.worker-index in
    subst (λ (l : List (Returned WorkerEnd)). AreVerdict (ends_of l) c.loop-worker.verdict) (take_all k ws c.loop-worker-test.false) c.loop-worker.invariant.so_far
