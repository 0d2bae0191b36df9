-- The steps by which a try to send stores the words of a frame, each with its cause.
use Rattle.std.specs.Prelude.{◌≡◌, ℕ, ◌+◌, ◌-◌, ◌<◌, ◌/◌, ◌==◌, Bool, MatchBool, cond, ltb, ◌||◌, List, length, take}
use Rattle.ring_rule.specs.Frames.{frame}
use Rattle.ring_rule.specs.Ring.{Sending}
use Rattle.ring_rule.specs.Ends.{puts, publishes, looks_read}
use Rattle.mq_handle.specs.Messages.{left_of}

-- the words before those of the frame in hand
abbrev pub base_of : Sending → ℕ → List ℕ
base_of s stored = take (length s.put - stored) s.put

-- how many words were put in all once the whole frame is stored
abbrev pub total_with : List ℕ → List ℕ → ℕ
total_with put message = length put - length (left_of put) + length (frame message)

-- no more words fit by the last look at the read count, and words of the frame are left
abbrev pub LacksRoom : ℕ → Sending → Type 0
LacksRoom total s = (length s.put ≡ s.room + s.ring.size) × (length s.put < total)

-- all that was put is published; if it is already, no step is made
abbrev pub publishes_rest : Sending → Sending
publishes_rest s = cond {A = Sending} (s.published == length s.put) s (publishes s)

-- the steps of a sender's end up to an end at which words may be left: a word is stored; or, if it lacks room, what it
-- put and has not published is published, then it looks at the read count, and finds that there is room again
pub data Fills (total : ℕ) (old : Sending) : Sending → Type 0 where
  enters : Fills total old old
  stores : (s : Sending) (word : ℕ) → Fills total old s → Fills total old (puts s word)
  finds_room : (s : Sending) (n : ℕ) → Fills total old s → LacksRoom total s → length s.put < n + s.ring.size → Fills total old (looks_read (publishes_rest s) n)

-- they end with a look that found no room
abbrev pub FillsUp : ℕ → Sending → Sending → Type 0
FillsUp total old new = (s : Sending) × (n : ℕ) × Fills total old s × LacksRoom total s × (length s.put ≡ n + s.ring.size) × (new ≡ looks_read (publishes_rest s) n)

-- how words were stored: all of the frame, or as far as there was room
abbrev pub FillsTo : Bool → ℕ → Sending → Sending → Type 0
FillsTo done total old new = MatchBool done (Fills total old new) (FillsUp total old new)

-- at the end of a message, all is published if that is asked for or more than a quarter of the ring is not published
abbrev pub finishes : Bool → Sending → Sending
finishes flush s = cond {A = Sending} (flush || ltb (s.published + s.ring.size / 4) (length s.put)) (publishes s) s
