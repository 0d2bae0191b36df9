use Rattle.std.proofs.Common.{◌≡◌, take}
use Rattle.gather_merge.specs.Levels.{rows_of}
use Rattle.gather_merge.proofs.sorting.put_rows.Given as goal

abbrev pub invariant-loop-keyed : goal.invariant-loop-keyed
invariant-loop-keyed l = record { rows : l.list.items ≡ take l.keyed-index (rows_of l.run) }
