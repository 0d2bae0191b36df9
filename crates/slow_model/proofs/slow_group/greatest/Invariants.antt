use Rattle.std.proofs.Common.{◌≡◌, filter_map, take}
use Rattle.par_model.proofs.Folds.{greatest_so_far}
use Rattle.par_model.specs.Aggregate.{rows_of, values_of}
use Rattle.par_model.specs.Number.{decimal_of}
use Rattle.slow_model.proofs.slow_group.greatest.Given as goal

abbrev pub invariant-rows : goal.invariant-rows
invariant-rows l = l.greatest ≡ greatest_so_far (filter_map (decimal_of l.item.places) (values_of l.item.column (rows_of l.plan (take l.row-index l.rows) l.key)))
