-- Maps that are put together.
use Rattle.std.specs.Prelude.{◌<◌, ◌^◌, ℕ, List, All, length}
use Rattle.std.specs.List.{AllZip}
use Rattle.row_blocks.specs.Blocks.{Table}
use Rattle.par_model.specs.Plan.{Plan}
use Rattle.partial_agg.specs.Groups.{AreGroups, GroupsByKey}
use Rattle.partial_agg.specs.Rows.{IsAccepted}
use Rattle.gather_law.specs.Shares.{together}

-- where some maps are those of shares of rows, this is the map of the shares together
abbrev pub Joins : List GroupsByKey → GroupsByKey → Type 0
Joins maps whole = (plan : Plan) (width : ℕ) (shares : List Table) → AllZip (AreGroups plan) shares maps → All (IsAccepted plan width) (together shares) → length (together shares) < 2 ^ 64 → AreGroups plan (together shares) whole
