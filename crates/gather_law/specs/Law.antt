-- The law of gathering: if the blocks were drawn, each once, and the leader has put its own blocks and all the tuples
-- of the others into its map, in any order, the map has the groups of one pass over all rows.
use Rattle.std.specs.Prelude.{◌≡◌, ◌≤◌, ◌<◌, ◌+◌, ◌*◌, ◌^◌, ℕ, List, ◌∷◌, All, drop, length, map as map_list}
use Rattle.std.specs.FinMap as map
use Rattle.std.specs.List.{AllByRecursion, AllZip, flat_map}
use Rattle.std.specs.List.Sorted.{IsPermutation}
use Rattle.scan_claim.specs.Drawing.{flat, once_below, times}
use Rattle.par_model.specs.Plan.{Plan}
use Rattle.partial_agg.specs.Groups.{AreGroups}
use Rattle.partial_agg.specs.Rows.{IsAccepted}
use Rattle.gather_law.specs.Tuples.{AreTuples, Group, HasTuple, groups_of, tuple_of}
use Rattle.row_blocks.specs.Blocks.{Table, rows_of_blocks}
use Rattle.gather_law.specs.Parts.{Part, after, blocks_in, received_in, with_all}

-- groups are those of batches of the rows of some blocks, each once and in any order; none of the rows is refused
pub record AreSent (plan : Plan) (width : ℕ) (records : Table) (draws : List ℕ) (groups : List Group) : Type 0 where
  pub batches : List Table
  pub cut : flat_map (λ batch. batch) batches ≡ rows_of_blocks records draws
  pub sent : IsPermutation (flat_map (groups_of plan) batches) groups
  pub accepted : All (IsAccepted plan width) (rows_of_blocks records draws)

-- what a leader has done, given its own draws, those of the others, and the groups that each of the others sent
pub record IsGathered (plan : Plan) (width : ℕ) (records : Table) (own : List ℕ) (draws : List (List ℕ)) (sent : List (List Group)) (parts : List Part) : Type 0 where
  pub own_blocks : rows_of_blocks records (blocks_in parts) ≡ rows_of_blocks records own
  pub own_accepted : All (IsAccepted plan width) (rows_of_blocks records own)
  pub all_received : IsPermutation (received_in parts) (flat_map (λ groups. groups) sent)
  pub all_sent : AllZip (AreSent plan width records) draws sent

-- messages combine to the groups of some rows: they are tuples, and the groups that they are, put into an empty map one
-- after another, give the map of these rows
pub record CombineTo (plan : Plan) (rows : Table) (messages : List (List ℕ)) : Type 0 where
  pub groups : List Group
  pub has : AllByRecursion (HasTuple plan) groups
  pub are : messages ≡ map_list (tuple_of plan) groups
  pub whole : AreGroups plan rows (with_all map.empty groups)

-- the law: with each block drawn once, no row is refused and the map is that of one pass
abbrev pub GathersAll : Type 0
GathersAll = (plan : Plan) (width : ℕ) (records : Table) (own : List ℕ) (draws : List (List ℕ)) (sent : List (List Group)) (parts : List Part) (n : ℕ)
    → IsGathered plan width records own draws sent parts
    → ((x : ℕ) → times x (flat (own ∷ draws)) ≡ once_below x n) → length records ≤ 256 * n + 1 → length records < 2 ^ 63
    → All (IsAccepted plan width) (drop 1 records) × AreGroups plan (drop 1 records) (after plan records parts)

-- the law: the tuples of some rows combine to their groups
abbrev pub TuplesCombine : Type 0
TuplesCombine = (plan : Plan) (width : ℕ) (rows : Table) (messages : List (List ℕ)) → All (IsAccepted plan width) rows → length rows < 2 ^ 63 → AreTuples plan rows messages → CombineTo plan rows messages
