use Rattle.std.proofs.Common.{rules}
use Rattle.std.proofs.lemmas.Fn.{always_returns_same}
use Rattle.std.proofs.lemmas.List.Sorted.{ranks_by}
use Rattle.result_text.specs.KeyColumns.{columns_in}
use Rattle.result_text.proofs.Columns.{columns_total}
use Rattle.line_runs.specs.Ranges.{is_before}
use Rattle.line_runs.proofs.ranges.Ranges.new.Goals as goal

pub returns-clause-ordered : goal.returns-clause-ordered
returns-clause-ordered c =
    c.sort_unstable_by.ensures.sorted (λ a b. is_before c.args.columns a.now b.now) (ranks_by columns_total (λ other. columns_in c.args.columns other.now)) (always_returns_same _ _ _ (λ a r f k. search rules))
