use Rattle.std.proofs.Common.{◌∙◌, [], arith}
use Rattle.std.proofs.lemmas.Result.{err_from_is_err_and}
use Rattle.state_runs.proofs.Putting.{all_runs, none_runs, one_run, run_long, same_within}
use Rattle.state_runs.proofs.saving.push_runs.Goals as goal

pub loop-run-init : goal.loop-run-init
loop-run-init c = none_runs c.args.runs.now c.args.writer.now c.args.out.now.items

pub loop-run-preserved : goal.loop-run-preserved
loop-run-preserved c =
    one_run c.args.runs.now c.loop-run.run-index _ c.args.writer.now c.loop-run.writer _ c.args.out.now.items c.loop-run.out.items _ c.loop-run-test.true (c.run-item.is ∙ same_within c.args.runs.now c.loop-run.run-index c.run-item.result [] c.loop-run-test.true) c.loop-run.invariant c.in_ok-push_run.ensures.taken

pub returns-in_err-push_run-clause-long : goal.returns-in_err-push_run-clause-long
returns-in_err-push_run-clause-long c =
    let why = err_from_is_err_and c.from_residual.result c.from_residual.ensures.1 in
    rw (why.1, why.2) (λ kinds start tuples has is e.
    run_long c.args.runs.now c.loop-run.run-index _ c.args.writer.now c.loop-run.writer c.args.out.now.items c.loop-run.out.items c.loop-run-test.true (c.run-item.is ∙ same_within c.args.runs.now c.loop-run.run-index c.run-item.result [] c.loop-run-test.true) c.loop-run.invariant
    (λ kinds start groups tuples written taken own. c.in_err-push_run.ensures.long kinds start groups tuples written taken own e) kinds start tuples has is)

pub returns-clause-taken : goal.returns-clause-taken
returns-clause-taken c = all_runs c.args.runs.now c.loop-run.run-index c.args.writer.now c.loop-run.writer c.args.out.now.items c.loop-run.out.items (omega (arith, c.loop-run-test.false)) c.loop-run.invariant
