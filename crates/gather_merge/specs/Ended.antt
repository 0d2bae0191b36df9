-- What a worker has done and said when it ends.
use Rattle.std.specs.Prelude.{◌≡◌, ◌⊎◌, ℕ, List, [], ◌∷◌, All, IsTrue, map}
use Rattle.error_queue.specs.Message.{encoding}
use Rattle.error_queue.specs.declared.ErrorMessage.TheVariants as message
use Rattle.row_blocks.specs.Blocks.{Table}
use Rattle.par_model.specs.Plan.{Plan}
use Rattle.parallel_ctx.specs.Accounts.{Account}
use Rattle.partial_agg.specs.Rows.{header_width}
use Rattle.scan_claim.specs.Drawing.{is_spent}
use Rattle.ring_rule.specs.Ring.{Sending}
use Rattle.worker_run.specs.Notices.{IsPublished}
use Rattle.worker_run.specs.Sent.{FoundGone, HasSent}
use Rattle.worker_run.specs.Ended.{HasRefused, IsNotice, IsStopped, Sends}
use Rattle.worker_run.specs.declared.WorkerEnd.{WorkerEnd}
use Rattle.worker_run.specs.declared.WorkerEnd.TheVariants.{Finished, Stopped, Refused, NoMemory}
use Rattle.gather_merge.specs.Sent.{HasSentRows, IsRowMessage, StoppedSending, message_of}
use Rattle.gather_merge.specs.Streams.{IsStream}

-- the rows of a worker's blocks, in order, are the messages on its tuple queue
pub record IsSentStream (plan : Plan) (records : Table) (draws : List ℕ) (messages : List (List ℕ)) : Type 0 where
  pub rows : List ℕ
  pub stream : IsStream plan (header_width records) records draws rows
  pub are : messages ≡ map message_of rows

-- A worker that finished: there are no more blocks, none of its rows is refused, it sent them all in order, and it said
-- that it has finished
pub record IsFinished (plan : Plan) (records : Table) (blocks : ℕ) (draws : List ℕ) (s : Sends) : Type 0 where
  pub spent : IsTrue (is_spent blocks draws)
  pub sent : IsSentStream plan records draws s.tuples
  pub said : s.errors ≡ encoding message.End ∷ []

-- what each end says; one without memory has said nothing
abbrev pub Ended : Plan → Table → ℕ → List ℕ → Sends → WorkerEnd → Type 0
Ended plan records blocks draws s Finished = IsFinished plan records blocks draws s
Ended plan records blocks draws s Stopped = IsStopped s
Ended plan records blocks draws s (Refused row cause item) = HasRefused plan records draws s row cause item
Ended plan records blocks draws s NoMemory = s.errors ≡ []

-- what a worker has done when it ends; whatever the end, its messages are notices and numbers of rows
pub record HasEnded (plan : Plan) (records : Table) (blocks : ℕ) (draws : List ℕ) (s : Sends) (end : WorkerEnd) : Type 0 where
  pub ended : Ended plan records blocks draws s end
  pub notices : All (IsNotice plan records draws) s.errors
  pub tuples : All IsRowMessage s.tuples

-- a worker that finished has sent all its rows, which can be read, and has said that it ended
pub record HasFinished (rows : List ℕ) (errors tuples errors' tuples' : Sending) : Type 0 where
  pub sent : HasSentRows rows tuples tuples'
  pub published : IsPublished tuples'
  pub said : HasSent errors errors' (encoding message.End ∷ [])

-- a worker that sends its rows finishes; it stops if a receiver is gone
abbrev pub Finishes : List ℕ → Sending → Sending → Sending → Sending → WorkerEnd → Type 0
Finishes rows errors tuples errors' tuples' Finished = HasFinished rows errors tuples errors' tuples'
Finishes rows errors tuples errors' tuples' Stopped = (StoppedSending tuples tuples' × (errors' ≡ errors)) ⊎ (HasSentRows rows tuples tuples' × FoundGone errors errors' [])
Finishes rows errors tuples errors' tuples' (Refused row cause item) = ⊥
Finishes rows errors tuples errors' tuples' NoMemory = ⊥

-- what went out on a worker's queues
abbrev pub sends_in : Account → Sends
sends_in a = record { errors = a.errors; tuples = a.tuples; errors_gone = a.errors_gone; tuples_gone = a.tuples_gone }

-- what it did: all that its end says
abbrev pub DidWork : Plan → Table → ℕ → Account → WorkerEnd → Type 0
DidWork plan records blocks a end = HasEnded plan records blocks a.draws (sends_in a) end
