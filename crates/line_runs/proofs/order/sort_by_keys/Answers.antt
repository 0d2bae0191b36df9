use Rattle.std.proofs.Common.{◌≡◌, rules}
use Rattle.std.proofs.lemmas.Fn.{always_returns_same}
use Rattle.std.proofs.lemmas.List.Sorted.{ranks_by}
use Rattle.std.specs.Ordering.{is_lt}
use Rattle.par_model.specs.Table.{columns_cmp}
use Rattle.result_text.proofs.Columns.{columns_total}
use Rattle.line_runs.specs.Order.{columns_at}
use Rattle.line_runs.proofs.Sorting.{sorted_entries}
use Rattle.line_runs.proofs.order.sort_by_keys.Goals as goal

pub returns-clause-sorted : goal.returns-clause-sorted
returns-clause-sorted c =
    let count = c.args.columns in
    let runs = c.args.runs.now in
    sorted_entries count runs c.sort_unstable_by.new.self
    (c.sort_unstable_by.ensures.sorted (λ a b. is_lt (columns_cmp (columns_at count runs a) (columns_at count runs b))) (ranks_by columns_total (columns_at count runs))
    (always_returns_same _ (λ a r. is_lt r ≡ is_lt (columns_cmp (columns_at count runs a.0.now) (columns_at count runs a.1.0.now))) _ (λ a r f' k. search rules)))
