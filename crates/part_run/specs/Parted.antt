-- Maps of the parts of the keys.
use Rattle.std.specs.Prelude.{◌≡◌, ◌<◌, ◌^◌, ℕ, List, All, length, slice_index_or}
use Rattle.std.specs.List.Sorted.{IsPermutation}
use Rattle.gather_law.specs.Shares.{AreShared, rows_in}
use Rattle.par_model.specs.Plan.{Plan}
use Rattle.partial_agg.specs.Groups.{AreGroups, GroupsByKey}
use Rattle.partial_agg.specs.Rows.{IsAccepted}
use Rattle.row_blocks.specs.Blocks.{Table}
use Rattle.row_lists.specs.Parts.{part_of}

-- There is a map for each part of the keys, and it is that of the rows whose keys are of the part; none of the rows is
-- refused
pub record AreParted (plan : Plan) (width : ℕ) (rows : Table) (maps : List GroupsByKey) : Type 0 where
  pub many : length maps ≡ 256
  pub accepted : All (IsAccepted plan width) rows
  pub each : (part : ℕ) (d : GroupsByKey) → part < 256 → AreGroups plan (rows_in plan part_of part rows) (slice_index_or maps part d)

-- the maps of the parts of some rows are those of shares of them: a group is in one map only
abbrev pub PartsShare : Type 0
PartsShare = (plan : Plan) (width : ℕ) (rows : Table) (maps : List GroupsByKey) → AreParted plan width rows maps → AreShared plan width rows maps

-- in which order the rows come does not matter
abbrev pub PartsAnyOrder : Type 0
PartsAnyOrder = (plan : Plan) (width : ℕ) (rows others : Table) (maps : List GroupsByKey) → IsPermutation rows others → length rows < 2 ^ 64 → AreParted plan width rows maps → AreParted plan width others maps
