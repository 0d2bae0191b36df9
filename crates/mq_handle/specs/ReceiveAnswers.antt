-- Which answer a try to receive gives, and when.
use Rattle.std.specs.Prelude.{◌≡◌, ◌≤◌, ℕ, List, [], take}
use Rattle.ring_rule.specs.Ring.{Receiving}
use Rattle.mq_handle.specs.Messages.{whole_of}
use Rattle.mq_handle.specs.Receives.{IsReceived, IsWaiting, IsOver}
use Rattle.mq_handle.specs.declared.answers.ReceiveAnswer.{ReceiveAnswer}
use Rattle.mq_handle.specs.declared.answers.ReceiveAnswer.TheVariants.{Message, WouldBlock, Detached}

-- the messages answered are the whole ones of the words taken: one more, or the same
abbrev pub Gives : Receiving → Receiving → List ℕ → ReceiveAnswer → Type 0
Gives old new message Message = IsReceived old new message
Gives old new message WouldBlock = (whole_of new.taken ≡ whole_of old.taken) × (message ≡ []) × IsWaiting old new
Gives old new message Detached = (whole_of new.taken ≡ whole_of old.taken) × (message ≡ []) × IsOver old new

-- the message that is in the buffer after an answer
abbrev pub message_of : ReceiveAnswer → List ℕ → ℕ → List ℕ
message_of Message buffer len = take len buffer
message_of WouldBlock buffer len = []
message_of Detached buffer len = []

-- a message that came has its place in the buffer
abbrev pub HasPlace : ReceiveAnswer → ℕ → ℕ → Type 0
HasPlace Message len room = len ≤ room
HasPlace WouldBlock len room = Unit {0}
HasPlace Detached len room = Unit {0}

-- the greatest number of steps of a try to receive, apart from four for each word that it takes, which are the load of
-- the word and a look at the count, the flag and the count again. At the end of a message it may give room back; any
-- other answer follows a look
abbrev pub steps_beside : ReceiveAnswer → ℕ
steps_beside Message = 1
steps_beside WouldBlock = 3
steps_beside Detached = 3
