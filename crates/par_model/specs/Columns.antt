-- Which columns a plan reads, and that a header has them.
use Rattle.std.specs.Prelude.{◌<◌, ℕ, Bool, true, false, All, IsTrue}
use Rattle.par_model.specs.Plan.{Plan}
use Rattle.par_model.specs.declared.plan.ItemKind.{ItemKind}
use Rattle.par_model.specs.declared.plan.ItemKind.TheVariants as kind

-- whether an aggregate reads a column
abbrev pub reads_column : ItemKind → Bool
reads_column kind.Rows = false
reads_column kind.Count = true
reads_column kind.Sum = true
reads_column kind.Min = true
reads_column kind.Max = true
reads_column kind.Avg = true

-- every column that a plan reads is one of a header of this width
pub record HasColumns (plan : Plan) (width : ℕ) : Type 0 where
  pub groups : All (λ column. column < width) plan.groups
  pub items : All (λ item. IsTrue (reads_column item.kind) → item.column < width) plan.items
  pub filters : All (λ filter. filter.column < width) plan.filters
