use Rattle.std.proofs.Common.{◌≡◌, ◌≤ℤ◌, ◌*◌, ◌^◌, filter_map, neg_ℤ, pos, take}
use Rattle.par_model.specs.Aggregate.{rows_of, total, values_of}
use Rattle.par_model.specs.Number.{decimal_of}
use Rattle.slow_model.proofs.slow_group.sum.Given as goal

-- each of the rows so far adds a number of 64 bits at most
abbrev pub invariant-rows : goal.invariant-rows
invariant-rows l = record {
  is : l.sum ≡ total (filter_map (decimal_of l.item.places) (values_of l.item.column (rows_of l.plan (take l.row-index l.rows) l.key)));
  low : neg_ℤ (pos (2 ^ 63 * l.row-index)) ≤ℤ l.sum;
  high : l.sum ≤ℤ pos (2 ^ 63 * l.row-index);
}
