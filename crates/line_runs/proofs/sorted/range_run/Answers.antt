use Rattle.std.proofs.Common.{◌≡◌, ◌∙◌, ap, map, subst, sym}
use Rattle.std.proofs.lemmas.Result.{IfOk-weaker}
use Rattle.std.specs.List.Sorted.{IsPermutation, IsSortedBy}
use Rattle.line_runs.specs.Entries.{comes_before}
use Rattle.line_runs.specs.Order.{entry_at}
use Rattle.line_runs.specs.Ranges.{entries_of}
use Rattle.line_runs.specs.declared.ranges.Ranges.{Ranges}
use Rattle.line_runs.proofs.sorted.range_run.Goals as goal

pub returns : goal.returns
returns c =
    let r : Ranges = c.args.ranges.now in
    let runs = c.args.runs.now in
    let found = c.in_ok-found.ensures in
    IfOk-weaker c.run_of.result _ _ (λ run is.
    let all : run ≡ map (entry_at runs) c.in_ok-found.found.lines.items = is ∙ ap (map (entry_at runs)) c.as_slice.ensures.value in
    record {
      same = subst (IsPermutation (entries_of r runs c.args.range)) (sym all) found.same;
      sorted = subst (IsSortedBy (comes_before r.columns)) (sym all) found.sorted;
    }) c.run_of.ensures
