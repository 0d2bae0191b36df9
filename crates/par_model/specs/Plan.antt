-- A plan over column numbers, as its lists.
use Rattle.std.specs.Prelude.{ℕ, Bool, List}
use Rattle.par_model.specs.declared.plan.Filter.{Filter}
use Rattle.par_model.specs.declared.plan.Item.{Item}

-- the columns to group by, the aggregates to compute, whether the shared hash table is to be used, and the filters, which
-- say what rows to keep
pub record Plan : Type 0 where
  pub groups : List ℕ
  pub items : List Item
  pub hash : Bool
  pub filters : List Filter
