-- Which answer a try to send gives, and when.
use Rattle.std.specs.Prelude.{◌≡◌, ℕ, ◌<◌, ◌≤◌, Bool, List, length}
use Rattle.ring_rule.specs.Ring.{Sending}
use Rattle.ring_rule.specs.Ends.{sender_sees_flag}
use Rattle.mq_handle.specs.Sends.{IsSent, IsBlocked}
use Rattle.mq_handle.specs.declared.answers.SendAnswer.{SendAnswer}
use Rattle.mq_handle.specs.declared.answers.SendAnswer.TheVariants.{Sent, WouldBlock, Detached, TooLong}

-- only the length decides the last; then the load of the flag; then whether the ring is full
abbrev pub Answers : Sending → Sending → List ℕ → Bool → SendAnswer → Type 0
Answers old new message flush Sent = IsSent old new message flush
Answers old new message flush (WouldBlock stored) = IsBlocked old new message stored
Answers old new message flush Detached = (length message ≤ old.ring.max) × (new ≡ sender_sees_flag old 1)
Answers old new message flush (TooLong len) = (old.ring.max < length message) × (len ≡ length message) × (new ≡ old)
