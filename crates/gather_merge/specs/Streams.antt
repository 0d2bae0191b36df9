-- The rows of some blocks as a sorted stream, and streams that were merged.
use Rattle.std.specs.Prelude.{ℕ, List, All}
use Rattle.std.specs.List.{flat_map}
use Rattle.std.specs.List.Sorted.{IsPermutation, IsSorted}
use Rattle.std.specs.declared.cmp.Ordering.{Ordering}
use Rattle.row_blocks.specs.Blocks.{Table, numbers_of_blocks, rows_of_blocks}
use Rattle.par_model.specs.Plan.{Plan}
use Rattle.partial_agg.specs.Rows.{IsAccepted}
use Rattle.gather_merge.specs.Order.{row_cmp}

-- the rows of some blocks, none of which is refused, each once, in the order of the rows
pub record IsStream (plan : Plan) (width : ℕ) (records : Table) (blocks rows : List ℕ) : Type 0 where
  pub accepted : All (IsAccepted plan width) (rows_of_blocks records blocks)
  pub each : IsPermutation (numbers_of_blocks records blocks) rows
  pub rising : IsSorted (row_cmp plan records) rows

-- a list has the elements of all streams, and is in order if each of them is
pub record IsMerge {X : Type 0} (cmp : X → X → Ordering) (streams : List (List X)) (merged : List X) : Type 0 where
  pub each : IsPermutation (flat_map (λ stream. stream) streams) merged
  pub rising : All (IsSorted cmp) streams → IsSorted cmp merged
