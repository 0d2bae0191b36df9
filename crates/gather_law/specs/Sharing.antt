-- However rows are shared out to participants and keys to parts, what is put together in the end is what one pass over
-- all rows gives.
use Rattle.std.specs.Prelude.{◌≡◌, ◌<◌, ◌≤◌, ◌+◌, ◌*◌, ◌^◌, ◌==◌, ◌++◌, ℕ, List, [], All, None, drop, fold, if◌then◌else◌, length, map as map_list, replicate}
use Rattle.std.specs.FinMap as map
use Rattle.std.specs.List.Sorted.{IsPermutation}
use Rattle.scan_claim.specs.Drawing.{flat, once_below, times}
use Rattle.par_model.specs.Plan.{Plan}
use Rattle.partial_agg.specs.Groups.{AreGroups, GroupsByKey, group_of, with_groups}
use Rattle.partial_agg.specs.Rows.{IsAccepted}
use Rattle.row_blocks.specs.Blocks.{Table, rows_of_blocks}
use Rattle.partial_agg.specs.declared.groups.Group.{Group}
use Rattle.gather_law.specs.KeyParts.{AreListings, part_map}
use Rattle.gather_law.specs.Shares.{Add, AreShared, rows_at, rows_in, together}

-- blocks that were drawn each once have all rows
abbrev pub BlocksCover : Type 0
BlocksCover = (plan : Plan) (width : ℕ) (records : Table) (draws : List (List ℕ)) (n : ℕ) → ((x : ℕ) → times x (flat draws) ≡ once_below x n) → length records ≤ 256 * n + 1
    → All (λ drawn. All (IsAccepted plan width) (rows_of_blocks records drawn)) draws
    → IsPermutation (together (map_list (rows_of_blocks records) draws)) (drop 1 records) × All (IsAccepted plan width) (drop 1 records)

-- pieces of a table that were drawn each once have all its rows
abbrev pub PiecesCover : Type 0
PiecesCover = (pieces : List Table) (draws : List (List ℕ)) (n : ℕ) → ((x : ℕ) → times x (flat draws) ≡ once_below x n) → length pieces ≤ n
    → IsPermutation (together (map_list (rows_at pieces) draws)) (together pieces)

-- empty maps are those of shares of no rows
abbrev pub SharesBegin : Type 0
SharesBegin = (plan : Plan) (width count : ℕ) → AreShared plan width [] (replicate count map.empty)

-- shares of some rows grow by shares of more
abbrev pub SharesGrow : Type 0
SharesGrow = (plan : Plan) (width : ℕ) (rows more : Table) (added : List Table) (olds news : List GroupsByKey)
    → AreShared plan width rows olds → Add plan added olds news → All (IsAccepted plan width) more → IsPermutation (together added) more
    → length rows + length more < 2 ^ 64 → AreShared plan width (rows ++ more) news

-- the maps of all shares, put together, are the map of the rows
abbrev pub SharesJoin : Type 0
SharesJoin = (plan : Plan) (width : ℕ) (rows : Table) (maps : List GroupsByKey) → AreShared plan width rows maps → length rows < 2 ^ 64
    → AreGroups plan rows (fold with_groups map.empty maps)

-- the map of the rows of a part has the keys of the part, each with the state of all its rows, and no other
abbrev pub PartsTogether : Type 0
PartsTogether = (plan : Plan) (part_of : List ℕ → ℕ) (part : ℕ) (rows : Table) (groups : GroupsByKey) (key : List ℕ) → AreGroups plan (rows_in plan part_of part rows) groups
    → map.get groups key ≡ (if part_of key == part then group_of plan rows key else None)

-- where the groups of all participants are parted by their keys, and those of a part added up, it is the map of the rows of
-- the part
abbrev pub PartsJoin : Type 0
PartsJoin = (plan : Plan) (width : ℕ) (part_of : List ℕ → ℕ) (part : ℕ) (rows : Table) (maps : List GroupsByKey) (lists : List (List Group)) → AreShared plan width rows maps → AreListings maps lists
    → length rows < 2 ^ 64 → AreGroups plan (rows_in plan part_of part rows) (part_map part_of part lists)
