-- What the calls that wait answer: what their last try did, before which the messages were those at entry.
use Rattle.std.specs.Prelude.{◌≡◌, ℕ, ◌<◌, ◌≤◌, Bool, List, [], ◌++◌, length}
use Rattle.ring_rule.specs.Ring.{Sending, Receiving}
use Rattle.ring_rule.specs.Ends.{sender_sees_flag}
use Rattle.mq_handle.specs.Messages.{whole_of}
use Rattle.mq_handle.specs.Sends.{IsSent, Continues}
use Rattle.mq_handle.specs.Receives.{IsReceived, IsOver}
use Rattle.mq_handle.specs.declared.answers.SendDone.{SendDone}
use Rattle.mq_handle.specs.declared.answers.ReceiveDone.{ReceiveDone}
use Rattle.mq_handle.specs.declared.answers.SendDone.TheVariants.{Sent, TooLong}
use Rattle.mq_handle.specs.declared.answers.SendDone.TheVariants.{Detached as SendDetached}
use Rattle.mq_handle.specs.declared.answers.ReceiveDone.TheVariants.{Message, Detached}

-- the end before the last try of a send: tries that would block went before it, and stored words of this message's
-- frame
pub record SendsOn (old last : Sending) (message : List ℕ) : Type 0 where
  pub ring : last.ring ≡ old.ring
  pub whole : whole_of last.put ≡ whole_of old.put
  pub turn : old.turn ≤ last.turn
  pub put : (rest : List ℕ) × (last.put ≡ old.put ++ rest)
  pub part : Continues last.put message
  pub flag : old.flag_value ≡ 1 → last.flag_value ≡ 1

-- one that is too long is refused by its first try, before any step; else the last try decides
abbrev pub EndsSend : Sending → Sending → List ℕ → Bool → SendDone → Type 0
EndsSend old new message flush Sent = (last : Sending) × SendsOn old last message × IsSent last new message flush
EndsSend old new message flush SendDetached = (last : Sending) × SendsOn old last message × (length message ≤ last.ring.max) × (new ≡ sender_sees_flag last 1)
EndsSend old new message flush (TooLong len) = (old.ring.max < length message) × (len ≡ length message) × (new ≡ old)

-- the end before the last try of a receive: what was taken stays taken
pub record ReceivesOn (old last : Receiving) : Type 0 where
  pub ring : last.ring ≡ old.ring
  pub whole : whole_of last.taken ≡ whole_of old.taken
  pub turn : old.turn ≤ last.turn
  pub grows : (rest : List ℕ) × (last.taken ≡ old.taken ++ rest)
  pub flag : old.flag_value ≡ 1 → last.flag_value ≡ 1

-- what the last try of a receive decides
abbrev pub EndsReceive : Receiving → Receiving → List ℕ → ReceiveDone → Type 0
EndsReceive old new message Message = (last : Receiving) × ReceivesOn old last × IsReceived last new message
EndsReceive old new message Detached = (last : Receiving) × ReceivesOn old last × (whole_of new.taken ≡ whole_of old.taken) × (message ≡ []) × IsOver last new
