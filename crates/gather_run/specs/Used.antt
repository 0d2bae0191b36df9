-- That a query's blocks were drawn by its participants, and that their groups went through the table of groups, or the
-- workers' through their queues.
use Rattle.std.specs.Prelude.{◌≡◌, ◌<◌, ◌+◌, ◌*◌, ◌&&◌, leb, ℕ, suc, List, ◌∷◌, All, IfSome, None, count_by, is_some, length, map as map_list}
use Rattle.std.specs.FinMap as map
use Rattle.std.specs.List.{AllZip, flat_map}
use Rattle.agg_table.specs.Calls.{HasPut, Use}
use Rattle.dsa_area.specs.Shown.{AreAll}
use Rattle.dsa_area.specs.declared.area.Area.{Area}
use Rattle.dsa_area.specs.declared.area.AreaPass.{AreaPass}
use Rattle.dshash_parts.specs.Ending.{whole_of as histories}
use Rattle.mq_handle.specs.Messages.{whole_of}
use Rattle.par_model.specs.Plan.{Plan}
use Rattle.partial_agg.specs.Groups.{AreGroups, GroupsByKey}
use Rattle.row_blocks.specs.Blocks.{Table, rows_of_blocks}
use Rattle.scan_claim.specs.Drawing.{flat, times}
use Rattle.scan_claim.specs.Shown.{lists_of}
use Rattle.gather_law.specs.Law.{CombineTo}
use Rattle.gather_law.specs.Tuples.{Group}
use Rattle.parallel_ctx.specs.Accounts.{use_by}
use Rattle.parallel_ctx.specs.Ran.{AreWhole}
use Rattle.parallel_ctx.specs.Tokens.{AreNumbered}
use Rattle.parallel_ctx.specs.declared.home.Finished.{Finished}
use Rattle.parallel_ctx.specs.declared.home.Returned.{Returned}
use Rattle.worker_run.specs.declared.WorkerEnd.{WorkerEnd}
use Rattle.worker_run.specs.Verdicts.{EndsWell}

-- ---- without a table

-- the tuples that were received of a worker combine to the groups of the rows of its blocks
abbrev pub SentItsRows : Plan → Table → List ℕ → Returned WorkerEnd → Type 0
SentItsRows plan records draws w = CombineTo plan (rows_of_blocks records draws) (whole_of w.tuples.receiver.taken)

-- ---- with a table

-- some groups are those of the rows of some blocks: each key that occurs there, once, with the aggregates of its rows
pub record AreBatchGroups (plan : Plan) (records : Table) (blocks : List ℕ) (groups : List Group) : Type 0 where
  pub whole : GroupsByKey
  pub are : AreGroups plan (rows_of_blocks records blocks) whole
  pub listed : groups ≡ map.entries whole

-- The blocks that a participant drew lie in batches, in the order in which it drew them. It put each group of each
-- batch into the table, or left it. At each partition its calls that were made are those of the groups that it put in, in
-- order, and no others. For each group that it left the histories have one of its calls, with that key and that state,
-- which was not made; and one of its requests for pages was refused, or that call found 64 keys in the key's bucket
pub record SharedItsBlocks (plan : Plan) (records : Table) (draws : List ℕ) (u : Use) : Type 0 where
  pub batches : List (List ℕ)
  pub cut : flat batches ≡ draws
  pub groups : List (List Group)
  pub are : AllZip (AreBatchGroups plan records) batches groups
  pub put : List Group
  pub left : List Group
  pub has : HasPut (flat_map (λ batch. batch) groups) u put left

-- ---- all participants

-- each notice that a worker sent was read
abbrev pub ReadItsNotices : Returned WorkerEnd → Type 0
ReadItsNotices w = whole_of w.errors.receiver.taken ≡ whole_of w.errors.sender.put

-- the passes of some area, one for each participant, in order
pub record ArePasses (participants : ℕ) (passes : List AreaPass) : Type 0 where
  pub count : length passes ≡ participants
  pub of_one : (area : Area) × AreAll area passes

-- What the participants brought home if there is an answer: there is one entry for each worker asked for, in order of
-- their numbers, and each that started has finished, its notices read; each block with a row was drawn once, by the
-- leader or by one of the workers; there is a table exactly if the plan asks for it and its area has room for it. With
-- a table the leader and each worker have shared out the groups of their blocks; without one the tuples received of
-- each worker combine to the groups of the rows of its blocks. The table's histories are legal, with no entries of
-- others, and the passes of its area are one for each participant
pub record IsUsed (plan : Plan) (records : Table) (workers pages : ℕ) (f : Finished WorkerEnd) : Type 0 where
  pub asked : length f.workers.items ≡ workers
  pub numbers : AreNumbered 1 (map_list (λ (w : Returned WorkerEnd). w.number) f.workers.items)
  pub ended : All (λ (w : Returned WorkerEnd). EndsWell w.end) f.workers.items
  pub noticed : All ReadItsNotices f.workers.items
  pub launched : f.launched ≡ count_by (λ (w : Returned WorkerEnd). is_some w.end) f.workers.items
  pub own : List ℕ
  pub draws : List (List ℕ)
  pub lists : lists_of f.drawn ≡ own ∷ draws
  pub drawn : (block : ℕ) → 256 * block + 1 < length records → times block (flat (lists_of f.drawn)) ≡ 1
  pub table : is_some f.table ≡ (plan.hash && leb 16 pages)
  pub whole : IfSome f.table (λ c. AreWhole (suc workers) (histories c))
  pub areas : IfSome f.table (λ c. ArePasses (suc workers) f.areas.items)
  pub shared_own : IfSome (use_by f 0) (SharedItsBlocks plan records own)
  pub shared : AllZip (λ ds (w : Returned WorkerEnd). IfSome (use_by f w.number) (SharedItsBlocks plan records ds)) draws f.workers.items
  pub sent : f.table ≡ None → AllZip (SentItsRows plan records) draws f.workers.items
