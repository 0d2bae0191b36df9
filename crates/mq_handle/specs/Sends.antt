-- What a try to send does to the sender's end.
use Rattle.std.specs.Prelude.{◌≡◌, ℕ, ◌+◌, ◌<◌, ◌≤◌, ◌/◌, Bool, true, false, cond, ltb, ◌||◌, ◌⊎◌, List, [], ◌∷◌, ◌++◌, length, take}
use Rattle.ring_rule.specs.Frames.{frame}
use Rattle.ring_rule.specs.Ring.{Sending}
use Rattle.mq_handle.specs.Messages.{whole_of, left_of}

-- the words of a frame that is not wholly stored are the first ones of this message's frame
abbrev pub Continues : List ℕ → List ℕ → Type 0
Continues put message = take (length (left_of put)) (frame message) ≡ left_of put

-- the call loaded the flag once, as its first step, and found x
pub record FlagLoad (old new : Sending) (x : ℕ) : Type 0 where
  pub once : new.flag_loads ≡ old.flag_loads + 1
  pub first : new.flag_turn ≡ old.turn + 1
  pub found : new.flag_value ≡ x

-- p is the published count at entry if the call did not load the read count. If it did, all was published at its last
-- load, and p is how much was put by then: more than was known to have room at entry, and not the whole frame
abbrev pub Since : Sending → Sending → ℕ → Type 0
Since old new p = ((new.looked ≡ old.looked) × (p ≡ old.published)) ⊎ ((old.turn < new.looked) × (p ≡ new.looked_put) × (old.room + old.ring.size ≤ p) × (p < length new.put))

-- the published count at the end of a message: all that was put, if that is asked for or more than a quarter of the
-- ring above p
abbrev pub published_of : Bool → ℕ → ℕ → ℕ → ℕ
published_of flush put p quarter = cond (flush || ltb (p + quarter) put) put p

-- the message was sent
pub record IsSent (old new : Sending) (message : List ℕ) (flush : Bool) : Type 0 where
  pub short : length message ≤ old.ring.max
  pub flag : FlagLoad old new 0
  pub whole : whole_of new.put ≡ whole_of old.put ++ message ∷ []
  pub left : left_of new.put ≡ []
  pub ends : (before : List ℕ) × (new.put ≡ before ++ frame message)
  pub published : (p : ℕ) × Since old new p × (new.published ≡ published_of flush (length new.put) p (old.ring.size / 4))

-- the ring was full before the whole frame was stored
pub record IsBlocked (old new : Sending) (message : List ℕ) (stored : ℕ) : Type 0 where
  pub short : length message ≤ old.ring.max
  pub flag : FlagLoad old new 0
  pub looked : old.turn < new.looked
  pub full : (new.looked_full ≡ true) × (new.looked_put ≡ length new.put) × (length new.put ≡ new.room + new.ring.size)
  pub used_up : old.room + old.ring.size ≤ length new.put
  pub whole : whole_of new.put ≡ whole_of old.put
  pub stored_is : stored ≡ length (left_of new.put)
  pub begins : left_of new.put ≡ take stored (frame message)
  pub more : stored < length (frame message)
  pub published : new.published ≡ length new.put

-- what stays in each call of the sender's end except `detach`: it stays open, what was put stays put, and a flag that
-- was found set is found set again
pub record StaysOpen (old new : Sending) : Type 0 where
  pub ring : new.ring ≡ old.ring
  pub stays : new.gone ≡ false
  pub turn : old.turn ≤ new.turn
  pub put : (rest : List ℕ) × (new.put ≡ old.put ++ rest)
  pub flag : old.flag_value ≡ 1 → new.flag_value ≡ 1
