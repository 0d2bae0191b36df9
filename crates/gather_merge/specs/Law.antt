-- If the blocks were drawn, each once, the merge of the participants' streams is the one order of all rows.
use Rattle.std.specs.Prelude.{◌≡◌, ◌≤◌, ◌+◌, ◌*◌, ℕ, List, All, drop, length}
use Rattle.std.specs.List.{AllZip}
use Rattle.scan_claim.specs.Drawing.{flat, once_below, times}
use Rattle.par_model.specs.Plan.{Plan}
use Rattle.partial_agg.specs.Rows.{IsAccepted}
use Rattle.row_blocks.specs.Blocks.{Table}
use Rattle.gather_merge.specs.Order.{IsOrder, row_cmp}
use Rattle.gather_merge.specs.Streams.{IsMerge, IsStream}

-- with each block drawn once, no row is refused, and the merge is an order of all rows, no matter which participant
-- drew which block
abbrev pub MergesAll : Type 0
MergesAll = (plan : Plan) (width : ℕ) (records : Table) (draws streams : List (List ℕ)) (rows : List ℕ) (n : ℕ)
    → AllZip (IsStream plan width records) draws streams → IsMerge (row_cmp plan records) streams rows
    → ((x : ℕ) → times x (flat draws) ≡ once_below x n) → length records ≤ 256 * n + 1
    → All (IsAccepted plan width) (drop 1 records) × IsOrder plan records rows

-- and there is only one order of the rows
abbrev pub OneOrder : Type 0
OneOrder = (plan : Plan) (records : Table) (xs ys : List ℕ) → IsOrder plan records xs → IsOrder plan records ys → xs ≡ ys
