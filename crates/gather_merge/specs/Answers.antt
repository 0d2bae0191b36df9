-- What the answers say of the rows.
use Rattle.std.specs.Prelude.{◌≡◌, ◌<◌, [], ◌∷◌, false, length}
use Rattle.row_blocks.specs.Blocks.{Table}
use Rattle.par_model.specs.Plan.{Plan}
use Rattle.par_model.specs.declared.plan.ItemKind.TheVariants.{Rows}
use Rattle.par_model.specs.declared.plan.Item.{Item}
use Rattle.worker_run.specs.Ended.{IsFirst, IsRefused}
use Rattle.gather_merge.specs.declared.MergeAnswer.{MergeAnswer}
use Rattle.gather_merge.specs.declared.MergeAnswer.TheVariants.{Row, Memory}

-- a plan that orders rows: it has columns to group by, has no aggregate but the count of rows, uses no hash table and
-- keeps all rows
pub record OrdersRows (plan : Plan) : Type 0 where
  pub columns : 0 < length plan.groups
  pub item : Item
  pub items : plan.items ≡ item ∷ []
  pub counts : item.kind ≡ Rows
  pub gather : plan.hash ≡ false
  pub whole : plan.filters ≡ []

-- an answer that names a row names a refused one, for its cause, which is no aggregate's; a lack of memory says nothing
abbrev pub IsCause : Plan → Table → MergeAnswer → Type 0
IsCause plan records (Row row cause) = IsRefused plan records row cause 0
IsCause plan records Memory = Unit {0}

-- and it names the first that is refused
abbrev pub IsFirstCause : Plan → Table → MergeAnswer → Type 0
IsFirstCause plan records (Row row cause) = IsFirst plan records row
IsFirstCause plan records Memory = Unit {0}
