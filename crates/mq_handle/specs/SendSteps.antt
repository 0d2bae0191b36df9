-- All steps of a try to send, in order.
use Rattle.std.specs.Prelude.{◌≡◌, ℕ, Bool, List}
use Rattle.ring_rule.specs.Ring.{Sending}
use Rattle.ring_rule.specs.Ends.{sender_sees_flag}
use Rattle.mq_handle.specs.Filling.{Fills, FillsUp, finishes, total_with}
use Rattle.mq_handle.specs.declared.answers.SendAnswer.{SendAnswer}
use Rattle.mq_handle.specs.declared.answers.SendAnswer.TheVariants.{Sent, WouldBlock, Detached, TooLong}

-- the flag is loaded; if it is not set words are stored, with a look at the read count each time that room is lacking;
-- a message that is wholly stored may be published
abbrev pub StepsAre : Sending → Sending → List ℕ → Bool → SendAnswer → Type 0
StepsAre old new message flush Sent = (s : Sending) × Fills (total_with old.put message) (sender_sees_flag old 0) s × (new ≡ finishes flush s)
StepsAre old new message flush (WouldBlock stored) = FillsUp (total_with old.put message) (sender_sees_flag old 0) new
StepsAre old new message flush Detached = new ≡ sender_sees_flag old 1
StepsAre old new message flush (TooLong len) = new ≡ old
