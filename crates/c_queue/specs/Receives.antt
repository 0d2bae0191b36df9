-- What a call of the receiving side does, by its code.
use Rattle.std.specs.Prelude.{◌≡◌, ℕ, ◌<◌, true, false, List, ◌++◌, length, take, drop}
use Rattle.ring_rule.specs.Ends.{receiver_leaves}
use Rattle.mq_handle.specs.Messages.{whole_of}
use Rattle.mq_handle.specs.Receives.{Incoming, incoming, IsReceived, IsWaiting, IsOver}
use Rattle.c_queue.specs.declared.code.Code.{Code}
use Rattle.c_queue.specs.declared.code.Code.TheVariants.{Done, WouldBlock, Detached, Gone, ShortBuffer}

-- the side's end is the same but for what it knows of the ring, and stays open: what was taken stays taken, and a flag
-- that was found set is found set again
pub record Stays (old new : Incoming) : Type 0 where
  pub rest : new ≡ incoming old.region new.end old.told new.message
  pub ring : new.end.ring ≡ old.end.ring
  pub stays : new.end.gone ≡ false
  pub grows : (more : List ℕ) × (new.end.taken ≡ old.end.taken ++ more)
  pub flag : old.end.flag_value ≡ 1 → new.end.flag_value ≡ 1

-- the bytes begin with a message of that length, and are as they were after it
pub record Has (before after message : List ℕ) (n : ℕ) : Type 0 where
  pub front : take n after ≡ message
  pub counted : length message ≡ n
  pub behind : drop n after ≡ drop n before
  pub room : length after ≡ length before

-- nothing was written
abbrev pub HasNothing : List ℕ → List ℕ → ℕ → Type 0
HasNothing before after n = (after ≡ before) × (n ≡ 0)

-- Done: the messages received are those before and the one that was written. WouldBlock: no further word was there, and
-- then the flag was not set. Detached: the flag was set, and then no further word was there. In both the messages
-- received are those before. The others made no step: this side has left; there is no room for the greatest message
abbrev pub Receives : Incoming → Incoming → List ℕ → List ℕ → Code → ℕ → Type 0
Receives old new before after Done n = Stays old new × IsReceived old.end new.end new.message × Has before after new.message n
Receives old new before after WouldBlock n = Stays old new × IsWaiting old.end new.end × (whole_of new.end.taken ≡ whole_of old.end.taken) × HasNothing before after n
Receives old new before after Detached n = Stays old new × IsOver old.end new.end × (whole_of new.end.taken ≡ whole_of old.end.taken) × HasNothing before after n
Receives old new before after Gone n = (old.end.gone ≡ true) × (new ≡ old) × HasNothing before after n
Receives old new before after ShortBuffer n = (n ≡ old.end.ring.max) × (length before < n) × (new ≡ old) × (after ≡ before)
Receives old new before after code n = ⊥

-- the flag is set, or this side had left before
abbrev pub StopsReceiving : Incoming → Incoming → Code → Type 0
StopsReceiving old new Done = (old.end.gone ≡ false) × (new ≡ record old { end = receiver_leaves old.end })
StopsReceiving old new Gone = (old.end.gone ≡ true) × (new ≡ old)
StopsReceiving old new code = ⊥
