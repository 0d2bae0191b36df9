-- What the answers say of the rows.
use Rattle.std.specs.Prelude.{◌≡◌, List, All, drop}
use Rattle.par_model.specs.Plan.{Plan}
use Rattle.partial_agg.specs.Groups.{AreGroups, GroupsByKey}
use Rattle.partial_agg.specs.Listed.{listed}
use Rattle.partial_agg.specs.Rows.{IsAccepted, header_width}
use Rattle.partial_agg.specs.declared.groups.Group.{Group}
use Rattle.row_blocks.specs.Blocks.{Table}
use Rattle.worker_run.specs.Ended.{IsFirst, IsRefused}
use Rattle.gather_run.specs.declared.GatherAnswer.{GatherAnswer}
use Rattle.gather_run.specs.declared.GatherAnswer.TheVariants.{Row, Memory}

-- groups are those of one pass over all rows, none of which is refused
pub record AreAllGroups (plan : Plan) (records : Table) (groups : List Group) : Type 0 where
  pub accepted : All (IsAccepted plan (header_width records)) (drop 1 records)
  pub whole : GroupsByKey
  pub are : AreGroups plan (drop 1 records) whole
  pub in_order : groups ≡ listed whole

-- an answer that names a row names a refused one; a lack of memory says nothing
abbrev pub IsCause : Plan → Table → GatherAnswer → Type 0
IsCause plan records (Row row cause item) = IsRefused plan records row cause item
IsCause plan records Memory = Unit {0}

-- and it names the first that is refused
abbrev pub IsFirstCause : Plan → Table → GatherAnswer → Type 0
IsFirstCause plan records (Row row cause item) = IsFirst plan records row
IsFirstCause plan records Memory = Unit {0}
