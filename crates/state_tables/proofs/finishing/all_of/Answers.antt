use Rattle.std.proofs.Common.{◌∙◌, Ok, ap, inr, length, not, sym}
use Rattle.std.proofs.lemmas.Iterator.Adapters.{YieldsList-from_vec}
use Rattle.std.proofs.lemmas.Iterator.Consumers.{YieldsList-turn}
use Rattle.std.specs.Result.{is_ok}
use Rattle.state_finalize.specs.declared.finishing.Finished.{Finished}
use Rattle.state_tables.proofs.SoFar.{one_more}
use Rattle.state_tables.proofs.finishing.all_of.Goals as goal

pub loop-job-preserved : goal.loop-job-preserved
loop-job-preserved c =
    let pieces = c.in-Ok-Table.pieces in
    let done = c.in-Ok-Table.is ∙ ap (λ (f : Finished). Ok f) c.in-Ok-Table.field-0-is in
    one_more c.loop-job.yielded c.in-Some.job c.loop-job.all.items c.append.new.self.items pieces (is_ok c.append.result) done (c.is_err.ensures.negation ∙ ap not c.if-is_err.false) c.append.ensures.items c.loop-job.invariant

pub returns-in-Ok-Refused-clause-all : goal.returns-in-Ok-Refused-clause-all
returns-in-Ok-Refused-clause-all c =
    let gives = c.into_iter-job-iterator.ensures.into_iter_gives in
    let all = YieldsList-from_vec {s = c.into_iter-job-iterator.result} c.args.jobs.items gives.0 (gives.1 ∙ c.args.jobs.ok.0) in
    let turn = YieldsList-turn all c.loop-job.yielded c.loop-job.job-iterator c.loop-job.yielded_by c.next.result c.next.new.self c.in-Some.job c.in-Some.is c.next.ensures.steps in
    record { job = c.in-Some.job; is = (length c.loop-job.yielded, turn.0, sym turn.1); has = c.in-Ok-Refused.is ∙ ap (λ (f : Finished). Ok f) c.in-Ok-Refused.field-0-is }

pub returns-in-Err-clause-fault : goal.returns-in-Err-clause-fault
returns-in-Err-clause-fault c =
    let gives = c.into_iter-job-iterator.ensures.into_iter_gives in
    let all = YieldsList-from_vec {s = c.into_iter-job-iterator.result} c.args.jobs.items gives.0 (gives.1 ∙ c.args.jobs.ok.0) in
    let turn = YieldsList-turn all c.loop-job.yielded c.loop-job.job-iterator c.loop-job.yielded_by c.next.result c.next.new.self c.in-Some.job c.in-Some.is c.next.ensures.steps in
    inr (record { job = c.in-Some.job; is = (length c.loop-job.yielded, turn.0, sym turn.1); has = c.in-Err.is })
