-- The notices of a worker: what it says, and what is heard of it.
use Rattle.std.specs.Prelude.{◌≡◌, ◌⊎◌, ℕ, List, [], ◌∷◌, Any, length, true}
use Rattle.error_queue.specs.Message.{encoding, IsMessage}
use Rattle.error_queue.specs.declared.ErrorMessage.{ErrorMessage}
use Rattle.error_queue.specs.declared.ErrorMessage.TheVariants as message
use Rattle.mq_handle.specs.Messages.{whole_of}
use Rattle.partial_agg.specs.declared.map.BlockAnswer.{BlockAnswer}
use Rattle.partial_agg.specs.declared.map.BlockAnswer.TheVariants as answer
use Rattle.ring_rule.specs.Ring.{Receiving, Sending}
use Rattle.worker_run.specs.Sent.{FoundGone, HasSent}
use Rattle.worker_run.specs.declared.WorkerEnd.{WorkerEnd}
use Rattle.worker_run.specs.declared.WorkerEnd.TheVariants.{Finished, Stopped, Refused, NoMemory}
use Rattle.worker_run.specs.declared.notices.News.{News}
use Rattle.worker_run.specs.declared.notices.News.TheVariants as news
use Rattle.worker_run.specs.declared.notices.Notice.{Notice}
use Rattle.worker_run.specs.declared.notices.Notice.TheVariants.{Read, Last}

-- ---- what a worker says

-- all that was put on a queue can be read
abbrev pub IsPublished : Sending → Type 0
IsPublished s = s.published ≡ length s.put

-- a worker that ends in order says so; it was stopped if the receiver is gone
abbrev pub EndsInOrder : Sending → Sending → WorkerEnd → Type 0
EndsInOrder errors errors' Finished = HasSent errors errors' (encoding message.End ∷ [])
EndsInOrder errors errors' Stopped = FoundGone errors errors' []
EndsInOrder errors errors' (Refused row cause item) = ⊥
EndsInOrder errors errors' NoMemory = ⊥

-- a worker that met a refused row names it, unless the receiver is gone; a lack of memory says nothing
abbrev pub GivesUp : Sending → Sending → BlockAnswer → WorkerEnd → Type 0
GivesUp errors errors' (answer.Row row cause item) end =
    (end ≡ Refused row cause item) × IsMessage (message.Row row cause item) × (HasSent errors errors' (encoding (message.Row row cause item) ∷ []) ⊎ FoundGone errors errors' [])
GivesUp errors errors' answer.Memory end = (end ≡ NoMemory) × (errors' ≡ errors)

-- ---- what is heard of it

-- the refusal that a message names, if it is a notice
pub record ReadsRow (row cause item : ℕ) (bytes : List ℕ) : Type 0 where
  pub each : (m : ErrorMessage) → IsMessage m → bytes ≡ encoding m → m ≡ message.Row row cause item

-- a message that was taken names this refusal
abbrev pub HasRead : Receiving → ℕ → ℕ → ℕ → Type 0
HasRead q row cause item = Any (ReadsRow row cause item) (whole_of q.taken)

-- the receiver has taken all that is ever put on the queue
pub record HasTakenAll (q : Receiving) : Type 0 where
  pub final : q.final ≡ true
  pub all : q.avail ≡ length q.taken

-- what the leader knows by the notices that it has taken
abbrev pub NewsIs : Receiving → News → Type 0
NewsIs q news.Nothing = Unit {0}
NewsIs q news.Over = HasTakenAll q
NewsIs q (news.Refused row cause item) = HasRead q row cause item

-- what one look at the notices says: one was read that names no row, or what the leader knows at last
abbrev pub LookIs : Receiving → Notice → Type 0
LookIs q Read = Unit {0}
LookIs q (Last news) = NewsIs q news

-- nothing more is to be waited for
abbrev pub IsLast : News → Type 0
IsLast news.Nothing = ⊥
IsLast news.Over = Unit {0}
IsLast (news.Refused row cause item) = Unit {0}
