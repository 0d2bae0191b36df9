use Rattle.std.proofs.Common.{◌∙◌, ap}
use Rattle.std.proofs.lemmas.Result.{err_from_is_err_and, on_ok_weaker}
use Rattle.line_runs.specs.Entries.{all_entries}
use Rattle.state_save.proofs.Pushed.{are_written}
use Rattle.state_runs.specs.Runs.{groups_in}
use Rattle.state_runs.proofs.saving.push_apart.Goals as goal

pub returns-in_err-push_runs-clause-long : goal.returns-in_err-push_runs-clause-long
returns-in_err-push_runs-clause-long g c =
    let kinds = c.args.shape.now.kinds.now in
    let run = c.in_ok-sorted.ensures in
    let why = err_from_is_err_and c.from_residual-in_err-push_runs.result c.from_residual-in_err-push_runs.ensures.1 in
    rw (why.1, why.2) (λ e. (
      run.tuples,
      run.are,
      λ fit. c.in_err-push_runs.ensures.long kinds c.args.at run.tuples (c.new-writer.ensures kinds) (ap all_entries c.deref.ensures.value ∙ run.is) e fit.in_blocks,
    ))

pub returns-clause-written : goal.returns-clause-written
returns-clause-written g c =
    let shape = c.args.shape.now in
    let kinds = shape.kinds.now in
    let run = c.in_ok-sorted.ensures in
    let goes = c.in_ok-push_runs.ensures.taken kinds c.args.at run.tuples (c.new-writer.ensures kinds) (ap all_entries c.deref.ensures.value ∙ run.is) in
    on_ok_weaker c.finish.result (are_written shape (groups_in c.args.maps.items) c.args.at run.tuples c.args.out.now.items c.push_runs.new.out.items c.finish.new.out.items c.push_runs.new.writer run.are goes)
    (c.finish.ensures.ends kinds c.args.at run.tuples goes.more goes.taken)

pub returns-clause-long : goal.returns-clause-long
returns-clause-long g c = λ e.
    let kinds = c.args.shape.now.kinds.now in
    let run = c.in_ok-sorted.ensures in
    let goes = c.in_ok-push_runs.ensures.taken kinds c.args.at run.tuples (c.new-writer.ensures kinds) (ap all_entries c.deref.ensures.value ∙ run.is) in
    (run.tuples, run.are, c.finish.ensures.long kinds c.args.at run.tuples goes.more goes.taken e)
