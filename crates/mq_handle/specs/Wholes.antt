-- What a try to send a message whole does to the sender's end.
use Rattle.std.specs.Prelude.{◌≡◌, ℕ, ◌+◌, ◌≤◌, ◌⊎◌, Bool, List, [], ◌∷◌, ◌++◌, length, drop}
use Rattle.std.specs.List.{fold}
use Rattle.ring_rule.specs.Frames.{frame}
use Rattle.ring_rule.specs.Ring.{Ring, Sending}
use Rattle.ring_rule.specs.Ends.{puts, looks_read, sender_sees_flag}
use Rattle.mq_handle.specs.Messages.{whole_of, left_of}
use Rattle.mq_handle.specs.Filling.{publishes_rest, finishes}
use Rattle.mq_handle.specs.declared.answers.SendAnswer.{SendAnswer}
use Rattle.mq_handle.specs.declared.answers.SendAnswer.TheVariants.{Sent, WouldBlock, Detached, TooLong}

-- a message that a queue can take whole: it is no longer than the queue takes, and an empty ring has room for its frame
abbrev pub FitsRing : Ring → List ℕ → Type 0
FitsRing r message = (length message ≤ r.max) × (length (frame message) ≤ r.size)

-- the words of the message's frame that are not on the ring: all of them, if no part of it was stored before
abbrev pub rest_of : List ℕ → List ℕ → List ℕ
rest_of put message = drop (length (left_of put)) (frame message)

-- at least this many more words fit by the last look at the read count
abbrev pub HasRoom : Sending → ℕ → Type 0
HasRoom s n = length s.put + n ≤ s.room + s.ring.size

-- an end that knows whether that number of words fits. If it does by what it knew, it made no step; if not, it
-- published what it had put before and looked at the read count
abbrev pub Looked : ℕ → Sending → Sending → Type 0
Looked n old new = (HasRoom old n × (new ≡ old)) ⊎ ((HasRoom old n → ⊥) × (new ≡ looks_read (publishes_rest old) new.room))

-- the message was sent: the flag was not set, and there was room for what is left of the frame, which is stored
pub record IsSentWhole (old new : Sending) (message : List ℕ) (flush : Bool) : Type 0 where
  pub fits : FitsRing old.ring message
  pub whole : whole_of new.put ≡ whole_of old.put ++ message ∷ []
  pub left : left_of new.put ≡ []
  pub steps : (s : Sending) × Looked (length (rest_of old.put message)) (sender_sees_flag old 0) s × HasRoom s (length (rest_of old.put message)) × (new ≡ finishes flush (fold puts s (rest_of old.put message)))

-- nothing was stored: the flag was not set, there was no room by what the end knew, and none by the look of this call
pub record IsLeftOut (old new : Sending) (message : List ℕ) (stored : ℕ) : Type 0 where
  pub fits : FitsRing old.ring message
  pub put : new.put ≡ old.put
  pub published : new.published ≡ length old.put
  pub stored_is : stored ≡ length (left_of old.put)
  pub steps : new ≡ looks_read (publishes_rest (sender_sees_flag old 0)) new.room
  pub lacked : HasRoom old (length (rest_of old.put message)) → ⊥
  pub lacks : HasRoom new (length (rest_of old.put message)) → ⊥

-- which answer comes when: only the message and the ring decide the last; then the load of the flag; then the room
abbrev pub AnswersWhole : Sending → Sending → List ℕ → Bool → SendAnswer → Type 0
AnswersWhole old new message flush Sent = IsSentWhole old new message flush
AnswersWhole old new message flush (WouldBlock stored) = IsLeftOut old new message stored
AnswersWhole old new message flush Detached = FitsRing old.ring message × (new ≡ sender_sees_flag old 1)
AnswersWhole old new message flush (TooLong len) = (FitsRing old.ring message → ⊥) × (len ≡ length message) × (new ≡ old)
