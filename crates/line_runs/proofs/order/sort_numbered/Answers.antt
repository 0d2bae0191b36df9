use Rattle.std.proofs.Common.{◌≡◌, rules}
use Rattle.std.proofs.lemmas.Fn.{always_returns_same}
use Rattle.std.proofs.lemmas.List.Sorted.{All-permutation, ranks_by}
use Rattle.std.specs.Ordering.{is_lt}
use Rattle.line_runs.specs.Order.{AreNumbered, IsNumbered}
use Rattle.line_runs.specs.declared.order.LineRef.{LineRef}
use Rattle.line_runs.proofs.Sorting.{by_numbers, line_cmp, line_total, sorted_entries}
use Rattle.line_runs.proofs.order.sort_numbered.Goals as goal

pub returns-clause-sorted : goal.returns-clause-sorted
returns-clause-sorted c =
    let count = c.args.columns in
    let runs = c.args.runs.now in
    let news = c.sort_unstable_by.new.self in
    let old = c.requires in
    let numbered : AreNumbered count runs news = record { shared = old.shared; whole = old.whole; each = All-permutation (IsNumbered old.shared runs) c.args.lines.now news c.sort_unstable_by.ensures.permutation old.each } in
    sorted_entries count runs news (by_numbers count runs news numbered
    (c.sort_unstable_by.ensures.sorted (λ a b. is_lt (line_cmp count runs a b)) (ranks_by (line_total count runs) (λ (line : LineRef). line))
    (always_returns_same _ (λ a r. is_lt r ≡ is_lt (line_cmp count runs a.0.now a.1.0.now)) _ (λ a r f' k. search rules))))
