-- If the participants put the groups of their rows into a shared table, or left them, the leader's map, to which what
-- they left and then the table's entries were added, has the groups of one pass over all rows.
use Rattle.std.specs.Prelude.{◌≡◌, ◌≤◌, ◌<◌, ◌+◌, ◌*◌, ◌^◌, ◌++◌, ℕ, List, All, drop, length, map as map_list}
use Rattle.std.specs.FinMap as map
use Rattle.std.specs.List.{AllZip, flat_map}
use Rattle.std.specs.List.Sorted.{IsPermutation}
use Rattle.agg_cell.specs.Called.{Seen}
use Rattle.agg_table.specs.Drained.{AddsTable, HoldsAll}
use Rattle.gather_law.specs.Law.{AreSent}
use Rattle.gather_law.specs.Parts.{with_all}
use Rattle.gather_law.specs.Tuples.{Group}
use Rattle.row_blocks.specs.Blocks.{Table}
use Rattle.par_model.specs.Plan.{Plan}
use Rattle.partial_agg.specs.Groups.{AreGroups, GroupsByKey}
use Rattle.partial_agg.specs.Rows.{IsAccepted}
use Rattle.scan_claim.specs.Drawing.{flat, once_below, times}

-- what a participant made of its groups: those that it put into the table, and those that it left
pub record Share : Type 0 where
  pub put : List Group
  pub left : List Group

-- The rows of the blocks that a participant drew are cut into batches. Of the groups of these, each batch's for itself,
-- each was put in or left, once; none of the rows is refused
abbrev pub Shares : Plan → ℕ → Table → List ℕ → Share → Type 0
Shares plan width records draws s = AreSent plan width records draws (s.put ++ s.left)

-- What all participants did with their draws, and the leader with its map. The table has what each of them put in, and
-- no more. The map had what they left, in any order, and then the table's entries were added: so it became `last`
pub record IsTabled (plan : Plan) (width : ℕ) (records : Table) (draws : List (List ℕ)) (shares : List Share) (history : Seen) (left : List Group) (last : GroupsByKey) : Type 0 where
  pub shared : AllZip (Shares plan width records) draws shares
  pub table : HoldsAll history (map_list (λ (s : Share). s.put) shares)
  pub all_left : IsPermutation left (flat_map (λ (s : Share). s.left) shares)
  pub added : AddsTable history (with_all map.empty left) last

-- the law: with each block drawn once, no row is refused and the map is that of one pass
abbrev pub TableGathers : Type 0
TableGathers = (plan : Plan) (width : ℕ) (records : Table) (draws : List (List ℕ)) (shares : List Share) (history : Seen) (left : List Group) (last : GroupsByKey) (n : ℕ)
    → IsTabled plan width records draws shares history left last
    → ((x : ℕ) → times x (flat draws) ≡ once_below x n) → length records ≤ 256 * n + 1 → length records < 2 ^ 63 → length plan.items ≤ 8
    → All (IsAccepted plan width) (drop 1 records) × AreGroups plan (drop 1 records) last
