use Rattle.std.proofs.Common.{◌≡◌, All, take}
use Rattle.gather_merge.specs.Levels.{IsWorded, rows_of}
use Rattle.gather_merge.specs.Order.{columns_at}
use Rattle.gather_merge.proofs.sorting.load_words.Given as goal

abbrev pub invariant-loop-keyed : goal.invariant-loop-keyed
invariant-loop-keyed l = record { rows : rows_of l.keyed-items ≡ rows_of l.initial.keyed-items; worded : All (IsWorded (columns_at l.plan l.rows) l.column l.from) (take l.keyed-index l.keyed-items) }
