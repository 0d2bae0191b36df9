use Rattle.std.proofs.Common.{◌≡◌, ◌⊎◌, Err, List, length, subst}
use Rattle.std.proofs.lemmas.Result.{IfErr-weaker, IfOk-weaker}
use Rattle.state_finalize.specs.Finished.{IsFinished, IsNotFinished}
use Rattle.state_finalize.specs.declared.finishing.FinishFault.TheVariants as fault
use Rattle.state_head.specs.declared.cover.Stretch.{Stretch}
use Rattle.state_tables.specs.Jobs.{AreAll, AreDone, HasJob}
use Rattle.state_tables.proofs.AllRanges.{all_finished, all_not, jobs_read}
use Rattle.state_tables.proofs.finishing.finish_ranges.Goals as goal

pub finish_each-requires-clause-jobs : goal.finish_each-requires-clause-jobs
finish_each-requires-clause-jobs g c κs within =
    let has = c.requires.sums in
    jobs_read (length c.args.bound.now.groups) has.0 has.1 c.args.sums c.in-Ok.jobs.items has.2 has.3 c.in-Ok.ensures

pub returns-clause-finished : goal.returns-clause-finished
returns-clause-finished g c = λ m cover are keys.
    let names = c.args.plan.now.plan in
    let plan = c.args.bound.now in
    let sources = c.args.sources in
    let olds = c.in-Ok.jobs.items in
    let news = c.finish_each.new.jobs.items in
    let done = subst (λ (ss : List Stretch). AreDone names plan sources ss olds news) c.as_slice.ensures.value c.finish_each.ensures in
    IfOk-weaker c.all_of.result (AreAll news) (IsFinished names plan sources m cover) (λ f all. all_finished names plan sources m cover c.args.sums olds news f c.requires.groups keys are c.in-Ok.ensures done all) c.all_of.ensures.all

pub returns-clause-refused : goal.returns-clause-refused
returns-clause-refused g c = λ m cover are.
    let names = c.args.plan.now.plan in
    let plan = c.args.bound.now in
    let sources = c.args.sources in
    let olds = c.in-Ok.jobs.items in
    let news = c.finish_each.new.jobs.items in
    let done = subst (λ (ss : List Stretch). AreDone names plan sources ss olds news) c.as_slice.ensures.value c.finish_each.ensures in
    IfErr-weaker c.all_of.result (λ why. (why ≡ fault.Memory) ⊎ HasJob news (Err why)) (IsNotFinished sources m cover) (λ why is. all_not names plan sources m cover c.args.sums olds news why are c.in-Ok.ensures done is) c.all_of.ensures.fault
