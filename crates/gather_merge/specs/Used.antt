-- That the rows were shared out among the participants, and that the workers' rows went through their queues.
use Rattle.std.specs.Prelude.{◌≡◌, ◌<◌, ◌+◌, ◌*◌, ℕ, List, ◌∷◌, All, count_by, is_some, length, map}
use Rattle.std.specs.List.{AllZip}
use Rattle.mq_handle.specs.Messages.{whole_of}
use Rattle.par_model.specs.Plan.{Plan}
use Rattle.scan_claim.specs.Drawing.{flat, times}
use Rattle.scan_claim.specs.Shown.{lists_of}
use Rattle.row_blocks.specs.Blocks.{Table}
use Rattle.parallel_ctx.specs.Tokens.{AreNumbered}
use Rattle.parallel_ctx.specs.declared.home.Finished.{Finished}
use Rattle.parallel_ctx.specs.declared.home.Returned.{Returned}
use Rattle.partial_agg.specs.Rows.{header_width}
use Rattle.worker_run.specs.declared.WorkerEnd.{WorkerEnd}
use Rattle.worker_run.specs.Verdicts.{EndsWell}
use Rattle.gather_merge.specs.Sent.{message_of}
use Rattle.gather_merge.specs.Streams.{IsStream}

-- ---- all participants

-- the messages sent and the messages taken on a worker's tuple queue are the rows of its blocks, in order
pub record SentItsRows (plan : Plan) (records : Table) (draws : List ℕ) (w : Returned WorkerEnd) : Type 0 where
  pub rows : List ℕ
  pub stream : IsStream plan (header_width records) records draws rows
  pub sent : whole_of w.tuples.sender.put ≡ map message_of rows
  pub taken : whole_of w.tuples.receiver.taken ≡ map message_of rows

-- each notice that a worker sent was read
abbrev pub ReadItsNotices : Returned WorkerEnd → Type 0
ReadItsNotices w = whole_of w.errors.receiver.taken ≡ whole_of w.errors.sender.put

-- What the participants brought home if there is an order: there is one entry for each worker asked for, in order of
-- their numbers, and each that started has finished, its notices read; each block with a row was drawn once, by the
-- leader or by one of the workers; and each worker's rows went through its queue, all of them and in order
pub record IsUsed (plan : Plan) (records : Table) (workers : ℕ) (f : Finished WorkerEnd) : Type 0 where
  pub asked : length f.workers.items ≡ workers
  pub numbers : AreNumbered 1 (map (λ (w : Returned WorkerEnd). w.number) f.workers.items)
  pub ended : All (λ (w : Returned WorkerEnd). EndsWell w.end) f.workers.items
  pub noticed : All ReadItsNotices f.workers.items
  pub launched : f.launched ≡ count_by (λ (w : Returned WorkerEnd). is_some w.end) f.workers.items
  pub own : List ℕ
  pub draws : List (List ℕ)
  pub lists : lists_of f.drawn ≡ own ∷ draws
  pub drawn : (block : ℕ) → 256 * block + 1 < length records → times block (flat (lists_of f.drawn)) ≡ 1
  pub sent : AllZip (SentItsRows plan records) draws f.workers.items
