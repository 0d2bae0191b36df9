-- What came of one of the leader's blocks.
use Rattle.std.specs.Prelude.{◌≡◌, ◌⊎◌, ℕ, IsTrue, List, Option, map as map_list}
use Rattle.agg_table.specs.Calls.{Use}
use Rattle.par_model.specs.Plan.{Plan}
use Rattle.partial_agg.specs.Groups.{GroupsByKey}
use Rattle.scan_claim.specs.Drawing.{is_spent}
use Rattle.scan_claim.specs.Shown.{blocks_of, callers_of}
use Rattle.scan_claim.specs.declared.claims.Claims.{Claims}
use Rattle.row_blocks.specs.Blocks.{Table}
use Rattle.parallel_ctx.specs.declared.tokens.LeaderEnds.{LeaderEnds}
use Rattle.gather_run.specs.Leading.{IsKeeping, IsLeading, MetRow}
use Rattle.gather_run.specs.Looks.{NamedBy, tuples_of}
use Rattle.gather_run.specs.declared.GatherAnswer.TheVariants.{Row, Memory}
use Rattle.gather_run.specs.declared.leading.Step.{Step}
use Rattle.gather_run.specs.declared.leading.Step.TheVariants.{Next, NoMore, Failed}

-- by the numbers that it has drawn then and what it has done with the table of groups, with these tuples taken: it has
-- done the block, or keeps its groups; or there are no more blocks, and it keeps none; or a row of the block is refused
abbrev pub BlockStep : Plan → Table → Claims → List ℕ → Option Use → List (List (List ℕ)) → GroupsByKey → GroupsByKey → Step → Type 0
BlockStep plan records claims draws used tuples kept groups Next = IsKeeping plan records draws used tuples kept groups
BlockStep plan records claims draws used tuples kept groups NoMore = IsLeading plan records draws used tuples groups × IsTrue (is_spent (blocks_of claims) draws)
BlockStep plan records claims draws used tuples kept groups (Failed (Row row cause item)) = MetRow plan records (callers_of claims ≡ 1) row cause item
BlockStep plan records claims draws used tuples kept groups (Failed Memory) = Unit {0}

-- what a block does to a leader that has taken any tuples
abbrev pub StepsAlone : Plan → Table → Claims → List ℕ → List ℕ → Option Use → Option Use → GroupsByKey → GroupsByKey → GroupsByKey → GroupsByKey → Step → Type 0
StepsAlone plan records claims old new used used' kept kept' before now step =
    (tuples : List (List (List ℕ))) → IsKeeping plan records old used tuples kept before → BlockStep plan records claims new used' tuples kept' now step

-- what a block does to the leader once it has heard all workers, one of which may have named a refused row
abbrev pub Steps : Plan → Table → Claims → List ℕ → Option Use → List LeaderEnds → GroupsByKey → GroupsByKey → Step → Type 0
Steps plan records claims draws used queues kept groups Next = IsKeeping plan records draws used (map_list tuples_of queues) kept groups
Steps plan records claims draws used queues kept groups NoMore = IsLeading plan records draws used (map_list tuples_of queues) groups × IsTrue (is_spent (blocks_of claims) draws)
Steps plan records claims draws used queues kept groups (Failed (Row row cause item)) = MetRow plan records (callers_of claims ≡ 1) row cause item ⊎ NamedBy queues row cause item
Steps plan records claims draws used queues kept groups (Failed Memory) = Unit {0}
