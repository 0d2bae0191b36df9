use Rattle.std.proofs.Common.{◌++◌, ◌∙◌, List, ap}
use Rattle.std.proofs.lemmas.Result.{err_from_is_err_and}
use Rattle.state_head.specs.declared.cover.Stretch.{Stretch}
use Rattle.state_ranges.proofs.sums.RangeSums.with_file.Goals as goal

pub returns-in_err-keep_in_threads : goal.returns-in_err-keep_in_threads
returns-in_err-keep_in_threads g c =
    let why = err_from_is_err_and c.from_residual.result c.from_residual.ensures.1 in
    rw (why.1, why.2) (λ m before bs are all rise e. c.in_err-keep_in_threads.ensures.kept m bs are.are_ranges all rise e)

pub returns-in-Ok : goal.returns-in-Ok
returns-in-Ok g c = λ m before bs are all rise e. record {
  cuts = are.cuts;
  rise = are.rise;
  ends = c.in_ok-keep_in_threads.ensures.same ∙ are.ends;
  are_ranges = c.in_ok-keep_in_threads.ensures.kept m bs are.are_ranges all rise e;
  cover_is = c.in-Ok.ensures.items ∙ ap (λ (ss : List Stretch). ss ++ c.args.cover.now) are.cover_is;
}
