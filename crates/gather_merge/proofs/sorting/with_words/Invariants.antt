use Rattle.std.proofs.Common.{◌≡◌, All, take}
use Rattle.gather_merge.specs.Levels.{IsWorded, rows_of}
use Rattle.gather_merge.specs.Order.{columns_at}
use Rattle.gather_merge.proofs.sorting.with_words.Given as goal

abbrev pub invariant-loop-row : goal.invariant-loop-row
invariant-loop-row l = record { rows : rows_of l.run.items ≡ take l.row-index l.list; worded : All (IsWorded (columns_at l.plan l.rows) 0 0) l.run.items }
