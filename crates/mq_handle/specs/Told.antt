-- What an end finds once it has met the other. Each load of the flag finds it set if the other end had set it by then,
-- and each load of a count finds at least what the other end had published by then. Of a call that made several loads
-- of a count, this speaks of the last.
use Rattle.std.specs.Prelude.{◌≡◌, ◌<◌, ◌≤◌, ◌⊎◌, true, Option, Some, None, IfSome}
use Rattle.ring_rule.specs.Ring.{Sending, Receiving}
use Rattle.mq_handle.specs.declared.answers.SendAnswer.{SendAnswer}
use Rattle.mq_handle.specs.declared.answers.ReceiveAnswer.{ReceiveAnswer}
use Rattle.mq_handle.specs.declared.answers.SendDone.{SendDone}
use Rattle.mq_handle.specs.declared.answers.ReceiveDone.{ReceiveDone}
use Rattle.mq_handle.specs.declared.answers.SendAnswer.TheVariants.{Sent, TooLong}
use Rattle.mq_handle.specs.declared.answers.SendAnswer.TheVariants.{WouldBlock as SendBlocks, Detached as SendDetached}
use Rattle.mq_handle.specs.declared.answers.ReceiveAnswer.TheVariants.{Message, WouldBlock, Detached}
use Rattle.mq_handle.specs.declared.answers.SendDone.TheVariants.{Sent as WasSent, Detached as NobodyReceives, TooLong as NotSent}
use Rattle.mq_handle.specs.declared.answers.ReceiveDone.TheVariants.{Message as WasReceived, Detached as NobodySends}

-- the sender found the flag set if the receiver had set it
abbrev pub SawReceiver : Option Receiving → Sending → Type 0
SawReceiver told new = IfSome told (λ q. q.gone ≡ true → new.flag_value ≡ 1)

-- it found at least the room that the receiver had given back
abbrev pub SawRoom : Option Receiving → Sending → Type 0
SawRoom told new = IfSome told (λ q. q.returned ≤ new.room)

-- it did not load the read count in this call, or found at least that room
abbrev pub RoomFound : Option Receiving → Sending → Sending → Type 0
RoomFound told old new = ((new.looked ≡ old.looked) × (new.room ≡ old.room)) ⊎ ((old.turn < new.looked) × SawRoom told new)

-- the receiver found the flag set if the sender had set it
abbrev pub SawSender : Option Sending → Receiving → Type 0
SawSender told new = IfSome told (λ s. s.gone ≡ true → new.flag_value ≡ 1)

-- it found at least the words that the sender had published
abbrev pub SawWords : Option Sending → Receiving → Type 0
SawWords told new = IfSome told (λ s. s.published ≤ new.avail)

-- it did not load the written count in this call, or found at least those words
abbrev pub WordsFound : Option Sending → Receiving → Receiving → Type 0
WordsFound told old new = ((new.looked ≡ old.looked) × (new.avail ≡ old.avail)) ⊎ ((old.turn < new.looked) × SawWords told new)

-- what a try to send found: each loads the flag except the one that is too long, and one that would block has loaded
-- the read count
abbrev pub SendFound : Option Receiving → Sending → Sending → SendAnswer → Type 0
SendFound told old new Sent = SawReceiver told new × RoomFound told old new
SendFound told old new (SendBlocks stored) = SawReceiver told new × SawRoom told new
SendFound told old new SendDetached = SawReceiver told new
SendFound told old new (TooLong len) = Unit {0}

-- what a try to receive found: one that gives no message has loaded the written count and the flag
abbrev pub ReceiveFound : Option Sending → Receiving → Receiving → ReceiveAnswer → Type 0
ReceiveFound told old new Message = WordsFound told old new
ReceiveFound told old new WouldBlock = SawSender told new × SawWords told new
ReceiveFound told old new Detached = SawSender told new × SawWords told new

-- what a look for more words found: it loads the written count, and if it found none the flag
abbrev pub LookFound : Option Sending → Receiving → Receiving → Option ReceiveAnswer → Type 0
LookFound told old new None = (old.turn < new.looked) × SawWords told new
LookFound told old new (Some answer) = SawSender told new × SawWords told new

-- what a send found in all its tries
abbrev pub SendEndFound : Option Receiving → Sending → Sending → SendDone → Type 0
SendEndFound told old new WasSent = SawReceiver told new × RoomFound told old new
SendEndFound told old new NobodyReceives = SawReceiver told new
SendEndFound told old new (NotSent len) = Unit {0}

-- what a receive found in all its tries
abbrev pub ReceiveEndFound : Option Sending → Receiving → Receiving → ReceiveDone → Type 0
ReceiveEndFound told old new WasReceived = WordsFound told old new
ReceiveEndFound told old new NobodySends = SawSender told new × SawWords told new
