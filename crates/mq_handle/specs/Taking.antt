-- What a receiver keeps of the frame in hand.
use Rattle.std.specs.Prelude.{◌≡◌, ℕ, suc, ◌+◌, ◌-◌, ◌*◌, ◌<◌, ◌≤◌, ◌^◌, ◌⊎◌, Bool, true, List, [], ◌∷◌, ◌++◌, length, take, get_or, All}
use Rattle.rel_pointer.specs.Bytes.{word_count}
use Rattle.ring_rule.specs.Frames.{frame, frames, IsMessage}
use Rattle.ring_rule.specs.Ring.{Receiving}
use Rattle.mq_handle.specs.Messages.{bytes_of}

-- the words that may be taken by the last look, and those whose room was not given back
pub record Ready (q : Receiving) (ready unreturned : ℕ) : Type 0 where
  pub ready_is : ready + length q.taken ≡ q.avail
  pub unreturned_is : unreturned + q.returned ≡ length q.taken
  pub few : q.avail ≤ q.returned + q.ring.size
  pub small : q.ring.size < 2 ^ 64

-- the buffer has the bytes of these words of a frame, as far as they are the message's
abbrev pub HasBytes : List ℕ → List ℕ → ℕ → Type 0
HasBytes buffer [] len = Unit {0}
HasBytes buffer (n ∷ tail) len = (len ≡ n) × ((i : ℕ) → i < n → i < 8 * length tail → get_or buffer i 0 ≡ get_or (bytes_of tail) i 0)

-- a beginning of the frame of a message, or nothing
abbrev pub IsBegun : ℕ → List ℕ → Type 0
IsBegun max part = (part ≡ []) ⊎ ((message more : List ℕ) × IsMessage max message × (frame message ≡ part ++ more))

-- the frame in hand: it begins after `base`, which is the frames of messages; `words` of its words are taken, and their
-- bytes are kept
pub record InHand (max : ℕ) (base taken buffer : List ℕ) (words len : ℕ) : Type 0 where
  pub messages : List (List ℕ)
  pub part : List ℕ
  pub fit : All (IsMessage max) messages
  pub base_is : base ≡ frames messages
  pub are : taken ≡ base ++ part
  pub begun : IsBegun max part
  pub counted : length part ≡ words
  pub bytes : HasBytes buffer part len

-- words of the frame are not yet taken
abbrev pub IsOpen : ℕ → ℕ → Type 0
IsOpen words len = (words ≡ 0) ⊎ (words < suc (word_count len))

-- the words before those of the frame in hand
abbrev pub before_of : Receiving → ℕ → List ℕ
before_of q words = take (length q.taken - words) q.taken

-- how an end changes while words are taken
pub record Takes (old new : Receiving) : Type 0 where
  pub ring : new.ring ≡ old.ring
  pub gone : new.gone ≡ old.gone
  pub returned : new.returned ≡ old.returned
  pub turn : old.turn ≤ new.turn
  pub grows : (rest : List ℕ) × (new.taken ≡ old.taken ++ rest)
  pub flag : old.flag_value ≡ 1 → new.flag_value ≡ 1

-- what a receiver keeps: the counts of its end, the frame in hand, whether its message is whole, and whether it is gone
pub record IsReceiver (q : Receiving) (buffer : List ℕ) (words len ready unreturned : ℕ) (whole gone : Bool) : Type 0 where
  pub counts : Ready q ready unreturned
  pub hand : InHand q.ring.max (before_of q words) q.taken buffer words len
  pub unfinished : IsOpen words len
  pub room : length buffer ≡ q.ring.max
  pub held : whole ≡ true → len ≤ length buffer
  pub gone_is : gone ≡ q.gone
