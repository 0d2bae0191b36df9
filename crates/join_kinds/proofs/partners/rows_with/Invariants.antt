use Rattle.std.proofs.Common.{◌≡◌, ◌≤◌}
use Rattle.join_kinds.specs.Partners.{rows_that}
use Rattle.join_kinds.proofs.partners.rows_with.Given as goal

abbrev pub invariant-loop-at : goal.invariant-loop-at
invariant-loop-at l = (l.at ≤ l.rows) × (l.list.items ≡ rows_that l.paired l.fn.side l.pairs l.at)
