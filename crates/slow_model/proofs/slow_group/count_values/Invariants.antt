use Rattle.std.proofs.Common.{◌≡◌, ◌≤◌, length, take}
use Rattle.par_model.specs.Aggregate.{rows_of, values_of}
use Rattle.slow_model.proofs.slow_group.count_values.Given as goal

abbrev pub invariant-rows : goal.invariant-rows
invariant-rows l = record {
  is : l.count ≡ length (values_of l.column (rows_of l.plan (take l.row-index l.rows) l.key));
  few : l.count ≤ l.row-index;
}
