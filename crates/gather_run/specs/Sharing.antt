-- What the leader does with its own blocks: without a table of groups their rows go into its map; with one their groups
-- are kept until they are many, and then each is put into the table, or goes into the map if the table has no room.
use Rattle.std.specs.Prelude.{◌≡◌, ◌<◌, ◌⊎◌, ◌++◌, ℕ, List, [], Option, Some, None}
use Rattle.std.specs.FinMap as map
use Rattle.agg_table.specs.Calls.{HasPut, IsLeft, IsPut, Use}
use Rattle.par_model.specs.Plan.{Plan}
use Rattle.partial_agg.specs.Blocks.{Stopped}
use Rattle.partial_agg.specs.Groups.{GroupsByKey, added, with_rows}
use Rattle.row_blocks.specs.Blocks.{Table, block_rows, rows_of_blocks}
use Rattle.partial_agg.specs.declared.map.BlockAnswer.{BlockAnswer}
use Rattle.partial_agg.specs.declared.map.BlockAnswer.TheVariants as answer
use Rattle.gather_law.specs.Parts.{with_all}
use Rattle.gather_law.specs.Tuples.{Group}
use Rattle.scan_claim.specs.Drawing.{flat}
use Rattle.worker_run.specs.Tabled.{groups_of_batches}
use Rattle.worker_run.specs.Working.{most_kept}

-- ---- groups

-- one group was put into the table, or was left and added to the map
abbrev pub SharesGroup : Use → Use → GroupsByKey → GroupsByKey → Group → Type 0
SharesGroup u v before now g = (IsPut u v g × (now ≡ before)) ⊎ (IsLeft u v g × (now ≡ added before g.0 g.1))

-- some groups were put into the table or added to the map, each of them once
pub record SharesGroups (groups : List Group) (u v : Use) (before now : GroupsByKey) : Type 0 where
  pub put : List Group
  pub left : List Group
  pub more : (gs ps ls : List Group) → HasPut gs u ps ls → HasPut (gs ++ groups) v (ps ++ put) (ls ++ left)
  pub kept : now ≡ with_all before left

-- ---- blocks

-- the groups of a map were kept, if they are few, or all were shared out
pub record SharesMany (all : GroupsByKey) (u v : Use) (kept : GroupsByKey) (before now : GroupsByKey) : Type 0 where
  pub few : map.len kept < most_kept
  pub shared : ((kept ≡ all) × (v ≡ u) × (now ≡ before)) ⊎ ((kept ≡ map.empty) × SharesGroups (map.entries all) u v before now)

-- a block was done: its rows are in the map, or with a table among the groups that are kept, or shared out with these
abbrev pub DoesBlock : Plan → Table → ℕ → Option Use → Option Use → GroupsByKey → GroupsByKey → GroupsByKey → GroupsByKey → Type 0
DoesBlock plan records block None None kept kept' before now = (kept' ≡ kept) × (now ≡ with_rows plan before (block_rows records block))
DoesBlock plan records block (Some u) (Some v) kept kept' before now = SharesMany (with_rows plan kept (block_rows records block)) u v kept' before now
DoesBlock plan records block None (Some v) kept kept' before now = ⊥
DoesBlock plan records block (Some u) None kept kept' before now = ⊥

-- with a table, all that is kept was shared out
abbrev pub SharesRest : Option Use → Option Use → GroupsByKey → GroupsByKey → GroupsByKey → Type 0
SharesRest None None kept before now = now ≡ before
SharesRest (Some u) (Some v) kept before now = SharesGroups (map.entries kept) u v before now
SharesRest None (Some v) kept before now = ⊥
SharesRest (Some u) None kept before now = ⊥

-- a block stopped at this row, the first of the block that is refused
pub record StopsAtRow (plan : Plan) (records : Table) (block row cause item : ℕ) : Type 0 where
  pub before : GroupsByKey
  pub now : GroupsByKey
  pub stopped : Stopped plan records block before now (answer.Row row cause item)

-- why a block was not done; a lack of memory says nothing
abbrev pub StopsAt : Plan → Table → ℕ → BlockAnswer → Type 0
StopsAt plan records block (answer.Row row cause item) = StopsAtRow plan records block row cause item
StopsAt plan records block answer.Memory = Unit {0}

-- with a table: the blocks that were drawn lie in batches, in order; of the groups of each batch some were put into the
-- table, and these were left; no rows went into the map
pub record SharesBlocks (plan : Plan) (records : Table) (draws : List ℕ) (u : Use) (blocks : List ℕ) (left : List Group) : Type 0 where
  pub none : blocks ≡ []
  pub batches : List (List ℕ)
  pub cut : flat batches ≡ draws
  pub put : List Group
  pub has : HasPut (groups_of_batches plan records batches) u put left

-- the blocks that were drawn are done: the rows of these went into the map, and these groups were left by the table
abbrev pub DoesBlocks : Plan → Table → List ℕ → Option Use → List ℕ → List Group → Type 0
DoesBlocks plan records draws None blocks left = (rows_of_blocks records blocks ≡ rows_of_blocks records draws) × (left ≡ [])
DoesBlocks plan records draws (Some u) blocks left = SharesBlocks plan records draws u blocks left
