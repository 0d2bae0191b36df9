use Rattle.std.proofs.Common.{◌≡◌}
use Rattle.gather_merge.specs.Order.{columns_at}
use Rattle.gather_merge.specs.RowWords.{tail_cmp}
use Rattle.gather_merge.proofs.comparing.compare_from.Given as goal

abbrev pub invariant-loop-at : goal.invariant-loop-at
invariant-loop-at l = record { so_far : tail_cmp (columns_at l.plan l.rows) l.from l.a l.b ≡ tail_cmp (columns_at l.plan l.rows) l.at l.a l.b }
