-- What the steps of a worker do to its queues.
use Rattle.std.specs.Prelude.{◌≡◌, ◌⊎◌, ℕ, [], ◌∷◌, Option, false}
use Rattle.std.specs.FinMap as map
use Rattle.agg_table.specs.Calls.{Use}
use Rattle.error_queue.specs.Message.{encoding}
use Rattle.error_queue.specs.declared.ErrorMessage.TheVariants as message
use Rattle.partial_agg.specs.Groups.{GroupsByKey}
use Rattle.ring_rule.specs.Ring.{Sending}
use Rattle.worker_run.specs.Notices.{IsPublished}
use Rattle.worker_run.specs.Sent.{FoundGone, HasSent, StoppedSending}
use Rattle.worker_run.specs.Tabled.{PassesOn}
use Rattle.worker_run.specs.declared.WorkerEnd.{WorkerEnd}
use Rattle.worker_run.specs.declared.WorkerEnd.TheVariants.{Finished, Stopped, Refused, NoMemory}

-- the queues of a worker stay its own, and open
pub record KeepsQueues (errors tuples errors' tuples' : Sending) : Type 0 where
  pub errors_ring : errors'.ring ≡ errors.ring
  pub errors_stays : errors'.gone ≡ false
  pub tuples_ring : tuples'.ring ≡ tuples.ring
  pub tuples_stays : tuples'.gone ≡ false

-- a worker that finished has passed on all its groups, its tuples can be read, and it has said that it ended
pub record HasFinished (slots : ℕ) (used used' : Option Use) (groups : GroupsByKey) (errors tuples errors' tuples' : Sending) : Type 0 where
  pub passed : PassesOn slots used used' groups map.empty tuples tuples'
  pub published : IsPublished tuples'
  pub said : HasSent errors errors' (encoding message.End ∷ [])

-- a worker that passes on its last groups finishes; it stops if a receiver is gone
abbrev pub Finishes : ℕ → Option Use → Option Use → GroupsByKey → Sending → Sending → Sending → Sending → WorkerEnd → Type 0
Finishes slots used used' groups errors tuples errors' tuples' Finished = HasFinished slots used used' groups errors tuples errors' tuples'
Finishes slots used used' groups errors tuples errors' tuples' Stopped = (StoppedSending slots tuples tuples' × (errors' ≡ errors)) ⊎ (PassesOn slots used used' groups map.empty tuples tuples' × FoundGone errors errors' [])
Finishes slots used used' groups errors tuples errors' tuples' (Refused row cause item) = ⊥
Finishes slots used used' groups errors tuples errors' tuples' NoMemory = ⊥
