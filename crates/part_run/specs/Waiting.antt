-- Rows of which some are grouped and some wait.
use Rattle.std.specs.Prelude.{◌≡◌, ◌<◌, ◌+◌, ◌++◌, ◌^◌, ℕ, List, All, false, length, map, slice_index_or}
use Rattle.std.specs.List.{AllZip}
use Rattle.std.specs.List.Sorted.{IsPermutation}
use Rattle.par_model.specs.Plan.{Plan}
use Rattle.partial_agg.specs.Groups.{GroupsByKey}
use Rattle.partial_agg.specs.Rows.{IsAccepted}
use Rattle.row_blocks.specs.Blocks.{Table}
use Rattle.row_lists.specs.Carried.{Carried}
use Rattle.row_windows.specs.Stretch.{Stretch}
use Rattle.gather_law.specs.Shares.{together}
use Rattle.split_run.specs.Pieces.{AreUnder, rows_of}
use Rattle.part_run.specs.Carrying.{AreSpread, waiting_for, with_carried}
use Rattle.part_run.specs.Held.{HeldParts}
use Rattle.part_run.specs.Parted.{AreParted}
use Rattle.part_run.specs.declared.parts.PartMap.{PartMap}

-- the groups of each of some maps
abbrev pub groups_in : List PartMap → List GroupsByKey
groups_in maps = map (λ (m : PartMap). m.groups) maps

-- how many participants there are
abbrev pub participants : HeldParts → ℕ
participants p = length p.lists

-- Parts have some rows, of which none is refused: those that were grouped are in the maps, and each participant's lists have
-- those that it read since; together these are the rows, in some order
pub record HaveRows (plan : Plan) (width : ℕ) (rows : Table) (p : HeldParts) : Type 0 where
  pub taken : Table
  pub shares : List Table
  pub maps : AreParted plan width taken p.maps
  pub lists : AllZip (AreSpread plan) shares p.lists
  pub accepted : All (IsAccepted plan width) rows
  pub same : IsPermutation (taken ++ together shares) rows

-- if parts have some rows, others have these and the rows of the pieces
abbrev pub TakesPieces : Plan → List Stretch → HeldParts → HeldParts → Type 0
TakesPieces plan pieces old new = (header : List (List ℕ)) (before : Table) → AreUnder header pieces → HaveRows plan (length header) before old
    → length before + length (rows_of pieces) < 2 ^ 64 → HaveRows plan (length header) (before ++ rows_of pieces) new

-- if parts have some rows, these maps are those of all of them
abbrev pub GroupsAll : HeldParts → List GroupsByKey → Type 0
GroupsAll p maps = (plan : Plan) (width : ℕ) (rows : Table) → HaveRows plan width rows p → length rows < 2 ^ 64 → AreParted plan width rows maps

-- the rows of a part that wait were added to its map, unless there was no memory for one
pub record HasWaiting (lists : List (List (List Carried))) (part : ℕ) (old new : PartMap) : Type 0 where
  pub added : new.lacks ≡ false → new.groups ≡ with_carried old.groups (waiting_for part lists)

-- likewise of all parts, in order
pub record HaveWaiting (lists : List (List (List Carried))) (olds news : List PartMap) : Type 0 where
  pub count : length news ≡ length olds
  pub each : (part : ℕ) (d : PartMap) → part < length olds → HasWaiting lists part (slice_index_or olds part d) (slice_index_or news part d)

-- no map lacks a row
abbrev pub LackNone : List PartMap → Type 0
LackNone maps = All (λ (m : PartMap). m.lacks ≡ false) maps
