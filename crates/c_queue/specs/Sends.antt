-- What a call of the sending side does, by its code.
use Rattle.std.specs.Prelude.{◌≡◌, ◌≢◌, ℕ, ◌<◌, ◌≤◌, Bool, true, false, cond, ◌==◌, List, length, Option, None, Some}
use Rattle.ring_rule.specs.Ends.{publishes, sender_leaves, sender_sees_flag}
use Rattle.mq_ring.specs.Ends.{SendingEnd}
use Rattle.mq_handle.specs.Sends.{IsSent, IsBlocked, StaysOpen}
use Rattle.mq_handle.specs.Wholes.{FitsRing, IsSentWhole, IsLeftOut}
use Rattle.c_queue.specs.Sides.{Outgoing, outgoing}
use Rattle.c_queue.specs.declared.code.Code.{Code}
use Rattle.c_queue.specs.declared.code.Code.TheVariants.{Done, WouldBlock, Detached, TooLong, OtherMessage, Gone}

-- the side's end is the same but for what it knows of the ring, and stays open
pub record Stays (old new : SendingEnd) : Type 0 where
  pub rest : new ≡ record old { end = new.end }
  pub stays : StaysOpen old.end new.end

-- the message that is begun once this many words of this one's frame are on the ring: the one that was, or this one
abbrev pub begun_after : ℕ → Option (List ℕ) → List ℕ → Option (List ℕ)
begun_after stored (Some m) message = Some m
begun_after stored None message = cond {A = Option (List ℕ)} (stored == 0) None (Some message)

-- Done: the messages sent are those before and this one. WouldBlock: the ring was found full, the messages sent are
-- those before, and a part of this one may be on the ring. Detached: the flag was found set, and nothing else was done.
-- The others made no step: this side has left; a part of another message is on the ring; the message is too long
abbrev pub Sends : Outgoing → Outgoing → List ℕ → Bool → Code → Type 0
Sends old new message flush Done = Stays old.sender new.sender × IsSent old.sender.end new.sender.end message flush × (new.begun ≡ None)
Sends old new message flush WouldBlock = Stays old.sender new.sender × ((stored : ℕ) × IsBlocked old.sender.end new.sender.end message stored × (new.begun ≡ begun_after stored old.begun message))
Sends old new message flush Detached = (length message ≤ old.sender.end.ring.max) × (new ≡ outgoing (record old.sender { end = sender_sees_flag old.sender.end 1 }) old.begun)
Sends old new message flush TooLong = (old.sender.end.ring.max < length message) × (new ≡ old)
Sends old new message flush OtherMessage = ((m : List ℕ) × (old.begun ≡ Some m) × (m ≢ message)) × (new ≡ old)
Sends old new message flush Gone = (old.sender.end.gone ≡ true) × (new ≡ old)
Sends old new message flush code = ⊥

-- A message is sent whole or not at all. Done: the messages sent are those before and this one. WouldBlock: there was
-- no room for what is not yet on the ring of the message's frame, and nothing was stored. Detached: the flag was found
-- set, and nothing else was done. The others made no step: the message is too long for the queue, or its frame for the
-- ring; a part of another message is on the ring; this side has left
abbrev pub SendsWhole : Outgoing → Outgoing → List ℕ → Bool → Code → Type 0
SendsWhole old new message flush Done = Stays old.sender new.sender × IsSentWhole old.sender.end new.sender.end message flush × (new.begun ≡ None)
SendsWhole old new message flush WouldBlock = Stays old.sender new.sender × ((stored : ℕ) × IsLeftOut old.sender.end new.sender.end message stored) × (new.begun ≡ old.begun)
SendsWhole old new message flush Detached = FitsRing old.sender.end.ring message × (new ≡ outgoing (record old.sender { end = sender_sees_flag old.sender.end 1 }) old.begun)
SendsWhole old new message flush TooLong = (FitsRing old.sender.end.ring message → ⊥) × (new ≡ old)
SendsWhole old new message flush OtherMessage = ((m : List ℕ) × (old.begun ≡ Some m) × (m ≢ message)) × (new ≡ old)
SendsWhole old new message flush Gone = (old.sender.end.gone ≡ true) × (new ≡ old)
SendsWhole old new message flush code = ⊥

-- all that was put is published, or this side has left
abbrev pub Flushes : Outgoing → Outgoing → Code → Type 0
Flushes old new Done = (old.sender.end.gone ≡ false) × (new ≡ outgoing (record old.sender { end = publishes old.sender.end }) old.begun)
Flushes old new Gone = (old.sender.end.gone ≡ true) × (new ≡ old)
Flushes old new code = ⊥

-- all that was put is published and the flag is set, or this side had left before
abbrev pub Leaves : Outgoing → Outgoing → Code → Type 0
Leaves old new Done = (old.sender.end.gone ≡ false) × (new ≡ outgoing (record old.sender { end = sender_leaves (publishes old.sender.end) }) old.begun)
Leaves old new Gone = (old.sender.end.gone ≡ true) × (new ≡ old)
Leaves old new code = ⊥
