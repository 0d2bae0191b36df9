-- What a participant has drawn: the numbers of the rows of its blocks, none of which is refused.
use Rattle.std.specs.Prelude.{◌≡◌, ◌≤◌, ◌+◌, ◌*◌, ◌-◌, ◌⊎◌, ℕ, IsTrue, List, All, Any, Option, Some, None, length, take}
use Rattle.row_blocks.specs.Blocks.{Table, block_rows, numbers_of_blocks, rows_of_blocks}
use Rattle.par_model.specs.Plan.{Plan}
use Rattle.parallel_ctx.specs.declared.tokens.LeaderEnds.{LeaderEnds}
use Rattle.partial_agg.specs.Rows.{IsAccepted, header_width}
use Rattle.partial_agg.specs.declared.map.BlockAnswer.{BlockAnswer}
use Rattle.partial_agg.specs.declared.map.BlockAnswer.TheVariants as answer
use Rattle.scan_claim.specs.Drawing.{below, is_spent}
use Rattle.scan_claim.specs.Shown.{blocks_of, callers_of, draws_of}
use Rattle.scan_claim.specs.declared.claims.ClaimSeat.{ClaimSeat}
use Rattle.scan_claim.specs.declared.claims.Claims.{Claims}
use Rattle.worker_run.specs.Ended.{IsFirst, IsOwnRow, IsRefused}
use Rattle.gather_merge.specs.Hearing.{IsNamedIn}
use Rattle.gather_merge.specs.declared.drawing.Step.{Step}
use Rattle.gather_merge.specs.declared.drawing.Step.TheVariants.{Next, NoMore, Stopped}

-- a list has the numbers of the rows of the blocks that a seat drew, and no such row is refused; a seat that is alone
-- draws the blocks in order
pub record HasDrawn (plan : Plan) (records : Table) (claims : Claims) (claim : ClaimSeat) (list : List ℕ) : Type 0 where
  pub numbers : list ≡ numbers_of_blocks records (draws_of claim)
  pub accepted : All (IsAccepted plan (header_width records)) (rows_of_blocks records (draws_of claim))
  pub in_order : callers_of claims ≡ 1 → draws_of claim ≡ below (length (draws_of claim))

-- a row of a block is refused, and none before it in the block
pub record StopsAt (plan : Plan) (records : Table) (block row cause item : ℕ) : Type 0 where
  pub refused : IsRefused plan records row cause item
  pub from : 256 * block + 1 ≤ row
  pub to : row ≤ 256 * block + 256
  pub before : All (IsAccepted plan (header_width records)) (take (row - (256 * block + 1)) (block_rows records block))

-- why a block was not taken: one of its rows is refused; a lack of memory says nothing
abbrev pub Stops : Plan → Table → ℕ → BlockAnswer → Type 0
Stops plan records block (answer.Row row cause item) = StopsAt plan records block row cause item
Stops plan records block answer.Memory = Unit {0}

-- a row of the blocks that a seat drew is refused, and if the seat is alone it is the first
pub record MetRow (plan : Plan) (records : Table) (claims : Claims) (claim : ClaimSeat) (row cause item : ℕ) : Type 0 where
  pub refused : IsRefused plan records row cause item
  pub own : IsOwnRow (draws_of claim) row
  pub first : callers_of claims ≡ 1 → IsFirst plan records row

-- why a seat did not draw to the end
abbrev pub Met : Plan → Table → Claims → ClaimSeat → BlockAnswer → Type 0
Met plan records claims claim (answer.Row row cause item) = MetRow plan records claims claim row cause item
Met plan records claims claim answer.Memory = Unit {0}

-- a seat drew to the end
pub record HasDrawnAll (plan : Plan) (records : Table) (claims : Claims) (claim : ClaimSeat) (list : List ℕ) : Type 0 where
  pub drawn : HasDrawn plan records claims claim list
  pub spent : IsTrue (is_spent (blocks_of claims) (draws_of claim))

-- what came of one block
abbrev pub Draws : Plan → Table → Claims → ClaimSeat → List ℕ → Step → Type 0
Draws plan records claims claim list Next = HasDrawn plan records claims claim list
Draws plan records claims claim list NoMore = HasDrawnAll plan records claims claim list
Draws plan records claims claim list (Stopped why) = Met plan records claims claim why

-- why a participant stopped drawing: it met a refused row, or a notice of a worker names one; or it had no memory
abbrev pub StopsDrawing : Plan → Table → Claims → ClaimSeat → List LeaderEnds → BlockAnswer → Type 0
StopsDrawing plan records claims claim queues (answer.Row row cause item) = MetRow plan records claims claim row cause item ⊎ Any (λ (q : LeaderEnds). IsNamedIn q (answer.Row row cause item)) queues
StopsDrawing plan records claims claim queues answer.Memory = Unit {0}

-- what came of hearing the workers, and of one block
abbrev pub DrawsNext : Plan → Table → Claims → ClaimSeat → List LeaderEnds → List ℕ → Step → Type 0
DrawsNext plan records claims claim queues list Next = HasDrawn plan records claims claim list
DrawsNext plan records claims claim queues list NoMore = HasDrawnAll plan records claims claim list
DrawsNext plan records claims claim queues list (Stopped why) = StopsDrawing plan records claims claim queues why

-- what came of all blocks
abbrev pub Drew : Plan → Table → Claims → ClaimSeat → List LeaderEnds → List ℕ → Option BlockAnswer → Type 0
Drew plan records claims claim queues list None = HasDrawnAll plan records claims claim list
Drew plan records claims claim queues list (Some why) = StopsDrawing plan records claims claim queues why
