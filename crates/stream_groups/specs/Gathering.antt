-- The groups of rows that were gathered so far.
use Rattle.std.specs.Prelude.{◌<◌, ◌≤◌, ◌+◌, ◌++◌, ◌^◌, ℕ, List, length}
use Rattle.par_model.specs.Plan.{Plan}
use Rattle.row_blocks.specs.Blocks.{Table}
use Rattle.row_windows.specs.Stretch.{Stretch}
use Rattle.gather_law.specs.Shares.{AreShared}
use Rattle.split_run.specs.Pieces.{AreUnder, rows_of}
use Rattle.part_run.specs.Waiting.{HaveRows, participants}
use Rattle.stream_groups.specs.declared.gathered.Gathered.{Gathered}
use Rattle.stream_groups.specs.declared.gathered.Gathered.TheVariants as kept

-- how many participants there are
abbrev pub participants_of : Gathered → ℕ
participants_of (kept.Near maps) = length maps.items
participants_of (kept.Parted parts) = participants parts

-- What was gathered is these rows, none of which is refused: the maps of participants are those of shares of them, or they are
-- in the parts of the keys, which a plan has only if it groups by columns
abbrev pub HasGathered : Plan → ℕ → Table → Gathered → Type 0
HasGathered plan width rows (kept.Near maps) = AreShared plan width rows maps.items
HasGathered plan width rows (kept.Parted parts) = (0 < length plan.groups) × HaveRows plan width rows parts

-- some rows were gathered, no more than averages are exact for
abbrev pub AreGathered : Plan → Gathered → Type 0
AreGathered plan g = (width : ℕ) × (rows : Table) × (length rows ≤ 2 ^ 50) × HasGathered plan width rows g

-- if some rows were gathered, then these and the rows of the pieces of a batch
abbrev pub TakesBatch : Plan → List Stretch → Gathered → Gathered → Type 0
TakesBatch plan pieces old new = (header : List (List ℕ)) (before : Table) → AreUnder header pieces → HasGathered plan (length header) before old
    → length before + length (rows_of pieces) < 2 ^ 64 → HasGathered plan (length header) (before ++ rows_of pieces) new
