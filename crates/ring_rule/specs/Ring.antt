-- A ring of words that one sender and one receiver share, as in shm_mq.c. Who may change which word, and when:
--
-- * The first word is the count of words written. Only the sender stores it, and only the length of what it has stored
--   before.
-- * The second is the count of words read. Only the receiver stores it, and only the length of what it has taken
--   before.
-- * The third is the flag, 0 or 1. Either end sets it, as its last step, and none clears it.
-- * The cells come after these. Only the sender stores them. It stores only the cell of the next word, and only if by
--   its last look at the read count the word that lay there was taken. The receiver loads a cell only if by its last
--   look at the written count its word lies there.
--
-- Counts have no bound, and their words are modulo 2 ^ 64. `IsSending` is what holds of the sender's end, `IsReceiving`
-- what holds of the receiver's, and `ArePaired` what ties the two. Each has a part that speaks only of the ends:
-- `AreEnds` is these three parts together.
use Rattle.std.specs.Prelude.{◌≡◌, ℕ, ◌+◌, ◌%◌, ◌^◌, ◌<◌, ◌≤◌, Bool, true, ◌||◌, cond, List, ◌∷◌, ◌++◌, length, Option, IfSome}
use mathlib.Core.Option.{some}
use lib.ListN.{get_elem?}
use Rattle.ring_rule.specs.Frames.{IsFramed}

-- where a ring lies, how many cells it has, where its counts begin, and the greatest length of a message
pub record Ring : Type 0 where
  pub base : ℕ
  pub size : ℕ
  pub start : ℕ
  pub max : ℕ

-- a ring has a power of two of cells, up to 2 ^ 20
pub record IsRing (r : Ring) : Type 0 where
  pub power : (e : ℕ) × (r.size ≡ 2 ^ e) × (e ≤ 20)
  pub start : r.start < 2 ^ 64
  pub max : r.max ≤ 1048576

-- word k of the region is one of the ring
abbrev pub InRing : Ring → ℕ → Type 0
InRing r k = (r.base ≤ k) × (k < r.base + 3 + r.size)

-- the cell of the word with number i
abbrev pub cell_of : Ring → ℕ → ℕ
cell_of r i = (r.start + i) % r.size

-- the word of the region that is this cell
abbrev pub place_of : Ring → ℕ → ℕ
place_of r i = r.base + 3 + cell_of r i

-- what the word of a count holds
abbrev pub count_word : Ring → ℕ → ℕ
count_word r n = (r.start + n) % 2 ^ 64

-- what the flag word holds
abbrev pub flag_word : Bool → ℕ
flag_word set = cond {A = ℕ} set 1 0

-- the sender's end: its cells, the words that it has put, how many of them it has published, and how many it last saw
-- to be read
pub record Sending : Type 0 where
  pub ring : Ring
  pub cells : List ℕ
  pub put : List ℕ
  pub published : ℕ
  pub room : ℕ
  -- it has set the flag
  pub gone : Bool
  -- the number of its steps; meetings with the other end do not count. The first step has turn 1, so a turn of 0 says
  -- that there was none
  pub turn : ℕ
  -- its last load of the read count: the turn, the length of put at it, and whether it found the ring full
  pub looked : ℕ
  pub looked_put : ℕ
  pub looked_full : Bool
  -- its loads of the flag: their number, and the turn and the value of the last one
  pub flag_loads : ℕ
  pub flag_turn : ℕ
  pub flag_value : ℕ

-- the receiver's end: the words that it has taken, how many of them it has given back, and how many it last saw to be
-- written
pub record Receiving : Type 0 where
  pub ring : Ring
  pub taken : List ℕ
  pub returned : ℕ
  pub avail : ℕ
  -- it has set the flag
  pub gone : Bool
  -- as in the sender's end
  pub turn : ℕ
  -- it has seen all that is ever written: it loaded the written count after it had found the flag set
  pub final : Bool
  -- its last load of the written count: the turn, and whether it found no further word
  pub looked : ℕ
  pub looked_empty : Bool
  -- its last load of the flag: the turn and the value
  pub flag_turn : ℕ
  pub flag_value : ℕ

-- what the sender's end says of itself
pub record IsSendingEnd (s : Sending) : Type 0 where
  pub ring : IsRing s.ring
  pub counted : length s.cells ≡ s.ring.size
  pub published : s.published ≤ length s.put
  pub room : length s.put ≤ s.room + s.ring.size
  pub framed : IsFramed s.ring.max s.put

-- what the receiver's end says of itself
pub record IsReceivingEnd (q : Receiving) : Type 0 where
  pub ring : IsRing q.ring
  pub returned : q.returned ≤ length q.taken
  pub taken : length q.taken ≤ q.avail

-- what ties the ends: a word that was put and not given back is in its cell, what was taken is a beginning of what was
-- put, no end has seen more than the other has published, and a flag that an end found set was set by the other
pub record AreTied (s : Sending) (q : Receiving) : Type 0 where
  pub same : s.ring ≡ q.ring
  pub cells : (i x : ℕ) → q.returned ≤ i → get_elem? s.put i ≡ some x → get_elem? s.cells (cell_of s.ring i) ≡ some x
  pub taken : (rest : List ℕ) × (s.put ≡ q.taken ++ rest)
  pub avail : q.avail ≤ s.published
  pub room : s.room ≤ q.returned
  pub sender_flag : s.flag_value ≡ 1 → q.gone ≡ true
  pub receiver_flag : q.flag_value ≡ 1 → s.gone ≡ true
  pub final : q.final ≡ true → (s.gone ≡ true) × (q.avail ≡ s.published)

-- the two ends of a ring, all that holds of them
pub record AreEnds (s : Sending) (q : Receiving) : Type 0 where
  pub sender : IsSendingEnd s
  pub receiver : IsReceivingEnd q
  pub tied : AreTied s q

-- the sender's end, and the words that only it stores
pub record IsSending (words : List ℕ) (s : Sending) : Type 0 where
  pub own : IsSendingEnd s
  pub written : get_elem? words s.ring.base ≡ some (count_word s.ring s.published)
  pub stored : (i x : ℕ) → get_elem? s.cells i ≡ some x → get_elem? words (s.ring.base + 3 + i) ≡ some x

-- the receiver's end, and the word that only it stores
pub record IsReceiving (words : List ℕ) (q : Receiving) : Type 0 where
  pub own : IsReceivingEnd q
  pub read : get_elem? words (q.ring.base + 1) ≡ some (count_word q.ring q.returned)

-- what a sender learnt of the receiver is no more than what holds of it
pub record WasReceiving (old q : Receiving) : Type 0 where
  pub ring : old.ring ≡ q.ring
  pub returned : old.returned ≤ q.returned
  pub avail : old.avail ≤ q.avail
  pub gone : old.gone ≡ true → q.gone ≡ true

-- what a receiver learnt of the sender is no more than what holds of it
pub record WasSending (old s : Sending) : Type 0 where
  pub ring : old.ring ≡ s.ring
  pub published : old.published ≤ s.published
  pub room : old.room ≤ s.room
  pub gone : old.gone ≡ true → s.gone ≡ true

-- the two ends, the flag, and what each learnt at their last meeting
pub record ArePaired (words : List ℕ) (s : Sending) (told_s : Option Receiving) (q : Receiving) (told_q : Option Sending) : Type 0 where
  pub tied : AreTied s q
  pub flag : get_elem? words (s.ring.base + 2) ≡ some (flag_word (s.gone || q.gone))
  pub told_sender : IfSome told_s (λ old. WasReceiving old q)
  pub told_receiver : IfSome told_q (λ old. WasSending old s)

-- the words of a ring, in order
abbrev pub ring_words : Sending → Receiving → List ℕ
ring_words s q = count_word s.ring s.published ∷ count_word s.ring q.returned ∷ flag_word (s.gone || q.gone) ∷ s.cells
