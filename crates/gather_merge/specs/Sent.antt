-- What a worker's sends do to its tuple queue: each message is the number of a row.
use Rattle.std.specs.Prelude.{◌≡◌, ℕ, List, map}
use Rattle.std.specs.Int.{from_le_bytes, to_le_bytes, w64}
use Rattle.ring_rule.specs.Ring.{Sending}
use Rattle.worker_run.specs.Sent.{FoundGone, HasSent}

-- the number of a row as a message of 8 bytes, the lowest first
abbrev pub message_of : ℕ → List ℕ
message_of row = to_le_bytes w64 row

-- the number that a message is
abbrev pub row_of : List ℕ → ℕ
row_of bytes = from_le_bytes w64 bytes

-- a message is the number of a row
pub record IsRowMessage (bytes : List ℕ) : Type 0 where
  pub row : ℕ
  pub is : bytes ≡ message_of row

-- the numbers of some rows were sent, and the end is open
abbrev pub HasSentRows : List ℕ → Sending → Sending → Type 0
HasSentRows rows old new = HasSent old new (map message_of rows)

-- some were sent, and then a send found that the receiver is gone
pub record StoppedSending (old new : Sending) : Type 0 where
  pub done : List ℕ
  pub found : FoundGone old new (map message_of done)
