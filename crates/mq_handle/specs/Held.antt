-- What the two ends keep besides the ring.
use Rattle.std.specs.Prelude.{◌≡◌, ℕ, ◌+◌, ◌<◌, ◌≤◌, ◌^◌, ◌⊎◌, Bool, true, false, List, [], ◌++◌, length, All}
use Rattle.ring_rule.specs.Frames.{frame, frames, IsMessage}
use Rattle.ring_rule.specs.Ring.{Sending, Receiving}

-- the words that fit by the last look, and those that are not published
pub record Counted (s : Sending) (free unpublished : ℕ) : Type 0 where
  pub free_is : free + length s.put ≡ s.room + s.ring.size
  pub unpublished_is : unpublished + s.published ≡ length s.put
  pub few : free + unpublished ≤ s.ring.size
  pub small : s.ring.size < 2 ^ 64

-- a part of the frame of a message, or nothing
abbrev pub IsTorn : ℕ → List ℕ → Type 0
IsTorn max part = (part ≡ []) ⊎ ((message more : List ℕ) × IsMessage max message × (frame message ≡ part ++ more) × (length part < length (frame message)))

-- words are the frames of messages and a part of a frame
pub record InFrames (max : ℕ) (words : List ℕ) (stored : ℕ) : Type 0 where
  pub messages : List (List ℕ)
  pub part : List ℕ
  pub fit : All (IsMessage max) messages
  pub are : words ≡ frames messages ++ part
  pub torn : IsTorn max part
  pub counted : length part ≡ stored

-- what a sender keeps: the counts of its end, and whether it is gone, which it is only once all is published
pub record IsSender (s : Sending) (stored free unpublished : ℕ) (gone : Bool) : Type 0 where
  pub counts : Counted s free unpublished
  pub framed : InFrames s.ring.max s.put stored
  pub gone_is : gone ≡ s.gone
  pub flushed : gone ≡ true → s.published ≡ length s.put

-- nothing was put yet
pub record IsUnsent (s : Sending) : Type 0 where
  pub put : s.put ≡ []
  pub published : s.published ≡ 0
  pub room : s.room ≡ 0
  pub stays : s.gone ≡ false

-- nothing was taken yet
pub record IsUnread (q : Receiving) : Type 0 where
  pub taken : q.taken ≡ []
  pub returned : q.returned ≡ 0
  pub avail : q.avail ≡ 0
  pub stays : q.gone ≡ false
