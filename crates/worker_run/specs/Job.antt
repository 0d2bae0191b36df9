-- A participant of a query: what it works on, and what it holds while it works.
use Rattle.std.specs.Prelude.{◌≡◌, ◌≤◌, ◌++◌, ◌⊎◌, ◌∷◌, [], ℕ, List, Option, Some, None}
use Rattle.agg_table.specs.Shown.{IsPart, IsSeat}
use Rattle.agg_table.specs.declared.part.HashPart.{HashPart}
use Rattle.agg_table.specs.declared.part.HashSeat.{HashSeat}
use Rattle.atomic_table.specs.Seated.{TableId}
use Rattle.row_blocks.specs.Blocks.{AreBlocks}
use Rattle.mq_ring.specs.Ends.{SendingEnd}
use Rattle.par_model.specs.Columns.{HasColumns}
use Rattle.partial_agg.specs.Rows.{header_width}
use Rattle.scan_claim.specs.Shown.{Belongs, blocks_of, draws_of, number_of}
use Rattle.scan_claim.specs.declared.claims.ClaimSeat.{ClaimSeat}
use Rattle.worker_run.specs.Sent.{IsFreshQueue}
use Rattle.worker_run.specs.Steps.{KeepsQueues}
use Rattle.worker_run.specs.declared.job.Job.{Job}
use Rattle.error_queue.specs.declared.TheConstants.{MESSAGE_BYTES}

-- the counter hands out the blocks of the rows, and they have the columns that the plan asks for
pub record IsJob {G : Type 0} (job : Job G) : Type 0 where
  pub blocks : AreBlocks job.rows.now (blocks_of job.claims.now)
  pub columns : HasColumns job.plan.now (header_width job.rows.now)

-- no block was drawn: no number, or one that is no block
abbrev pub DrawsNone : ℕ → List ℕ → List ℕ → Type 0
DrawsNone blocks draws draws' = (draws' ≡ draws) ⊎ ((n : ℕ) × (blocks ≤ n) × (draws' ≡ draws ++ n ∷ []))

-- a participant has passes of the table of groups exactly if there is a table, and they are of it
abbrev pub IsSeated : TableId → Option HashPart → Option HashSeat → Type 0
IsSeated region None None = Unit {0}
IsSeated region None (Some s) = ⊥
IsSeated region (Some p) None = ⊥
IsSeated region (Some p) (Some s) = IsPart region p × IsSeat p s

-- ---- what a worker holds

-- its seat at the counter, and the sending ends of its queues
pub record AreHands {G : Type 0} (job : Job G) (claim : ClaimSeat) (errors tuples : SendingEnd) : Type 0 where
  pub seat : Belongs job.claims.now claim
  pub errors_here : errors.region ≡ job.region.now
  pub tuples_here : tuples.region ≡ job.region.now

-- the same, with which nothing was done yet; the queues take messages of 14 bytes, and of this many
pub record AreFreshHands {G : Type 0} (job : Job G) (longest : ℕ) (claim : ClaimSeat) (errors tuples : SendingEnd) : Type 0 where
  pub hands : AreHands job claim errors tuples
  pub fresh : draws_of claim ≡ []
  pub errors_fresh : IsFreshQueue MESSAGE_BYTES errors.end
  pub tuples_fresh : IsFreshQueue longest tuples.end

-- the same seat, which may have drawn, and the same ends, which may have sent and are open
pub record KeepsHands {G : Type 0} (job : Job G) (claim : ClaimSeat) (errors tuples : SendingEnd) (claim' : ClaimSeat) (errors' tuples' : SendingEnd) : Type 0 where
  pub seat : Belongs job.claims.now claim'
  pub number : number_of claim' ≡ number_of claim
  pub errors_kept : errors' ≡ record errors { end = errors'.end }
  pub tuples_kept : tuples' ≡ record tuples { end = tuples'.end }
  pub queues : KeepsQueues errors.end tuples.end errors'.end tuples'.end
