use Rattle.std.proofs.Common.{All, List, subst, sym}
use Rattle.std.proofs.lemmas.Result.{IfOk-weaker}
use Rattle.partial_agg.specs.Groups.{GroupsByKey}
use Rattle.partial_agg.specs.Listed.{listed}
use Rattle.result_text.specs.Printable.{ArePrintable}
use Rattle.line_runs.specs.Runs.{AreRunsOf}
use Rattle.line_runs.specs.declared.texts.Job.{Job}
use Rattle.line_runs.proofs.Answering.{all_under, runs_made}
use Rattle.line_runs.proofs.texts.runs_of.Goals as goal

pub make_runs-requires-clause-printable : goal.make_runs-requires-clause-printable
make_runs-requires-clause-printable g c κs within =
    let plan = c.args.bound.now in
    let jobs = c.in_ok-jobs.jobs.items in
    all_under (λ (m : GroupsByKey). ArePrintable plan (listed m)) (λ (job : Job). job.map) jobs (subst (All (λ (m : GroupsByKey). ArePrintable plan (listed m))) (sym c.in_ok-jobs.ensures) c.requires.printable)

pub returns : goal.returns
returns g c =
    let plan = c.args.bound.now in
    let olds = c.in_ok-jobs.jobs.items in
    let news = c.make_runs.new.jobs.items in
    IfOk-weaker c.take_runs.result _ _ (λ runs is. subst (λ (ms : List GroupsByKey). AreRunsOf plan ms runs.items) c.in_ok-jobs.ensures (runs_made plan olds news runs.items c.make_runs.ensures is)) c.take_runs.ensures
