use Rattle.std.proofs.Common.{arith}
use Rattle.std.proofs.lemmas.Result.{err_from_is_err_and}
use Rattle.state_runs.proofs.Putting.{all_put, none_put, one_long, one_put}
use Rattle.state_runs.proofs.saving.push_run.Goals as goal

pub loop-at-init : goal.loop-at-init
loop-at-init c = none_put c.args.run.now c.args.writer.now c.args.out.now.items

pub loop-at-preserved : goal.loop-at-preserved
loop-at-preserved c =
    one_put c.args.run.now c.loop-at.at c.args.writer.now c.loop-at.writer _ c.args.out.now.items c.loop-at.out.items _ c.key.result.now c.line.result.now (omega (arith, c.loop-at-test.true, c.len-at-end.ensures)) c.key.ensures c.line.ensures c.loop-at.invariant
    c.in_ok-push_made.ensures.taken

pub returns-in_err-push_made-clause-long : goal.returns-in_err-push_made-clause-long
returns-in_err-push_made-clause-long c =
    let why = err_from_is_err_and c.from_residual.result c.from_residual.ensures.1 in
    rw (why.1, why.2) (λ kinds start groups tuples written has is e.
    one_long c.args.run.now c.loop-at.at c.args.writer.now c.loop-at.writer c.args.out.now.items c.loop-at.out.items c.key.result.now c.line.result.now (omega (arith, c.loop-at-test.true, c.len-at-end.ensures)) c.key.ensures c.line.ensures c.loop-at.invariant
    (λ kinds start groups written g taken key values. c.in_err-push_made.ensures.long kinds start groups written g taken key values e) kinds start groups tuples written has is)

pub returns-clause-taken : goal.returns-clause-taken
returns-clause-taken c = all_put c.args.run.now c.loop-at.at c.args.writer.now c.loop-at.writer c.args.out.now.items c.loop-at.out.items (omega (arith, c.loop-at-test.false, c.len-at-end.ensures)) c.loop-at.invariant
