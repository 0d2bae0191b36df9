-- Messages as words, laid out as shm_mq.c does: the length of a message in one word, and then its bytes, the last word
-- filled up with zeros.
use Rattle.std.specs.Prelude.{◌≡◌, ℕ, ◌≤◌, List, [], ◌∷◌, ◌++◌, length, All}
use Rattle.rel_pointer.specs.Bytes.{AllBytes, word_count, packed_words}

-- the words of one message
abbrev pub frame : List ℕ → List ℕ
frame message = length message ∷ packed_words (word_count (length message)) message

-- the words of messages, one after the other
abbrev pub frames : List (List ℕ) → List ℕ
frames [] = []
frames (m ∷ ms) = frame m ++ frames ms

-- a message that a ring takes: bytes, and not too many of them
pub record IsMessage (max : ℕ) (message : List ℕ) : Type 0 where
  pub bytes : AllBytes message
  pub short : length message ≤ max

-- a beginning of the frames of some messages
unfoldable pub IsFramed : ℕ → List ℕ → Type 0
IsFramed max words = (messages : List (List ℕ)) × (rest : List ℕ) × All (IsMessage max) messages × (frames messages ≡ words ++ rest)

-- the whole messages of some words: the longest list of messages with whose frames the words begin
pub record AreWhole (words : List ℕ) (messages : List (List ℕ)) : Type 0 where
  pub bytes : All AllBytes messages
  pub rest : List ℕ
  pub begins : words ≡ frames messages ++ rest
  pub longest : (m more : List ℕ) → AllBytes m → rest ≡ frame m ++ more → ⊥
