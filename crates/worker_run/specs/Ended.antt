-- What a worker has done and said when it ends.
use Rattle.std.specs.Prelude.{◌≡◌, ◌==◌, ◌<◌, ◌≤◌, ◌+◌, ◌-◌, ◌*◌, ◌⊎◌, ℕ, Bool, List, [], ◌∷◌, All, Contains, IsTrue, Some, drop, length, take, true}
use Rattle.csv_rows.specs.Records.{record_at}
use Rattle.error_queue.specs.Message.{IsMessage, encoding}
use Rattle.error_queue.specs.declared.ErrorMessage.TheVariants as message
use Rattle.mq_handle.specs.Messages.{whole_of}
use Rattle.par_model.specs.Plan.{Plan}
use Rattle.par_model.specs.Refuse.{refusal}
use Rattle.partial_agg.specs.Rows.{IsAccepted, header_width}
use Rattle.ring_rule.specs.Ring.{Sending}
use Rattle.scan_claim.specs.Drawing.{is_spent}
use Rattle.gather_law.specs.Tuples.{AreTuples, IsTupleOf}
use Rattle.row_blocks.specs.Blocks.{Table, rows_of_blocks}
use Rattle.worker_run.specs.declared.WorkerEnd.{WorkerEnd}
use Rattle.worker_run.specs.declared.WorkerEnd.TheVariants.{Finished, Stopped, Refused, NoMemory}

-- ---- what went out on the two queues

-- the messages that a worker sent on each queue, and whether a send on it found that its receiver is gone
pub record Sends : Type 0 where
  pub errors : List (List ℕ)
  pub tuples : List (List ℕ)
  pub errors_gone : Bool
  pub tuples_gone : Bool

-- a send on this end found that the receiver is gone
abbrev pub found_gone : Sending → Bool
found_gone s = s.flag_value == 1

-- what went out on two ends
abbrev pub sends_of : Sending → Sending → Sends
sends_of errors tuples = record { errors = whole_of errors.put; tuples = whole_of tuples.put; errors_gone = found_gone errors; tuples_gone = found_gone tuples }

-- ---- refused rows

-- a row is refused for this cause
pub record IsRefused (plan : Plan) (records : Table) (row cause item : ℕ) : Type 0 where
  pub first : 1 ≤ row
  pub within : row < length records
  pub cause_is : refusal plan (header_width records) (record_at records row) ≡ Some (record { cause = cause; item = item })

-- no row before this one is refused
abbrev pub IsFirst : Plan → Table → ℕ → Type 0
IsFirst plan records row = All (IsAccepted plan (header_width records)) (take (row - 1) (drop 1 records))

-- a row is one of the 256 of a block that was drawn
pub record IsOwnRow (draws : List ℕ) (row : ℕ) : Type 0 where
  pub block : ℕ
  pub drawn : Contains draws block
  pub from : 256 * block + 1 ≤ row
  pub to : row ≤ 256 * block + 256

-- a message names a refused row of the blocks that were drawn
pub record NamesRefused (plan : Plan) (records : Table) (draws : List ℕ) (bytes : List ℕ) : Type 0 where
  pub row : ℕ
  pub cause : ℕ
  pub item : ℕ
  pub is : bytes ≡ encoding (message.Row row cause item)
  pub fits : IsMessage (message.Row row cause item)
  pub refused : IsRefused plan records row cause item
  pub own : IsOwnRow draws row

-- a message of an error queue: it names a refused row of the worker's blocks, or says that the worker has finished
abbrev pub IsNotice : Plan → Table → List ℕ → List ℕ → Type 0
IsNotice plan records draws bytes = NamesRefused plan records draws bytes ⊎ (bytes ≡ encoding message.End)

-- ---- the ends

-- A worker that finished: there are no more blocks, none of its rows is refused, its tuples are those of its rows, and
-- it said that it has finished
pub record IsFinished (plan : Plan) (records : Table) (blocks : ℕ) (draws : List ℕ) (s : Sends) : Type 0 where
  pub spent : IsTrue (is_spent blocks draws)
  pub accepted : All (IsAccepted plan (header_width records)) (rows_of_blocks records draws)
  pub sent : AreTuples plan (rows_of_blocks records draws) s.tuples
  pub said : s.errors ≡ encoding message.End ∷ []

-- one that was stopped: it has said nothing, and found the receiver of one of its queues gone
pub record IsStopped (s : Sends) : Type 0 where
  pub silent : s.errors ≡ []
  pub found : (s.errors_gone ≡ true) ⊎ (s.tuples_gone ≡ true)

-- one that met a refused row: it is a row of its blocks, and the worker has named this row and no other, unless it
-- found the receiver of its notices gone
pub record HasRefused (plan : Plan) (records : Table) (draws : List ℕ) (s : Sends) (row cause item : ℕ) : Type 0 where
  pub refused : IsRefused plan records row cause item
  pub own : IsOwnRow draws row
  pub said : (s.errors ≡ encoding (message.Row row cause item) ∷ []) ⊎ ((s.errors ≡ []) × (s.errors_gone ≡ true))

-- what each end says; one without memory has said nothing
abbrev pub Ended : Plan → Table → ℕ → List ℕ → Sends → WorkerEnd → Type 0
Ended plan records blocks draws s Finished = IsFinished plan records blocks draws s
Ended plan records blocks draws s Stopped = IsStopped s
Ended plan records blocks draws s (Refused row cause item) = HasRefused plan records draws s row cause item
Ended plan records blocks draws s NoMemory = s.errors ≡ []

-- what a worker has done when it ends; whatever the end, its messages are notices and tuples of the plan
pub record HasEnded (plan : Plan) (records : Table) (blocks : ℕ) (draws : List ℕ) (s : Sends) (end : WorkerEnd) : Type 0 where
  pub ended : Ended plan records blocks draws s end
  pub notices : All (IsNotice plan records draws) s.errors
  pub tuples : All (IsTupleOf plan) s.tuples
