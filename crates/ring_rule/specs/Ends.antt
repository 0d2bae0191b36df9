-- What an end of a ring knows at the start and after each of its steps.
use Rattle.std.specs.Prelude.{◌≡◌, ℕ, ◌+◌, ◌≤◌, ◌==◌, true, false, cond, List, [], ◌∷◌, ◌++◌, length, slice_set}
use Rattle.ring_rule.specs.Ring.{Ring, Sending, Receiving, cell_of, count_word}

-- a sender that has done nothing yet
abbrev pub first_sending : Ring → List ℕ → Sending
first_sending r cells = record { ring = r; cells = cells; put = []; published = 0; room = 0; gone = false; turn = 0; looked = 0; looked_put = 0; looked_full = false; flag_loads = 0; flag_turn = 0; flag_value = 0 }

-- a receiver that has done nothing yet
abbrev pub first_receiving : Ring → Receiving
first_receiving r = record { ring = r; taken = []; returned = 0; avail = 0; gone = false; turn = 0; final = false; looked = 0; looked_empty = false; flag_turn = 0; flag_value = 0 }

-- n is the read count that a sender finds in the word x: the one no more than a ring's length below what it has put
pub record IsReadCount (s : Sending) (x n : ℕ) : Type 0 where
  pub word : x ≡ count_word s.ring n
  pub below : n ≤ length s.put
  pub near : length s.put ≤ n + s.ring.size

-- n is the written count that a receiver finds in the word x: the one no more than a ring's length above what it has
-- given back
pub record IsWrittenCount (q : Receiving) (x n : ℕ) : Type 0 where
  pub word : x ≡ count_word q.ring n
  pub above : q.returned ≤ n
  pub near : n ≤ q.returned + q.ring.size

-- the sender has loaded the read count
abbrev pub looks_read : Sending → ℕ → Sending
looks_read s n = record s { room = n; turn = s.turn + 1; looked = s.turn + 1; looked_put = length s.put; looked_full = length s.put == n + s.ring.size }

-- it has stored a word
abbrev pub puts : Sending → ℕ → Sending
puts s x = record s { cells = slice_set s.cells (cell_of s.ring (length s.put)) x; put = s.put ++ x ∷ []; turn = s.turn + 1 }

-- it has stored the written count
abbrev pub publishes : Sending → Sending
publishes s = record s { published = length s.put; turn = s.turn + 1 }

-- it has set the flag
abbrev pub sender_leaves : Sending → Sending
sender_leaves s = record s { gone = true; turn = s.turn + 1 }

-- it has found x in the flag
abbrev pub sender_sees_flag : Sending → ℕ → Sending
sender_sees_flag s x = record s { turn = s.turn + 1; flag_loads = s.flag_loads + 1; flag_turn = s.turn + 1; flag_value = x }

-- the receiver has loaded the written count, and had not found the flag set
abbrev pub looks_written : Receiving → ℕ → Receiving
looks_written q n = record q { avail = n; turn = q.turn + 1; looked = q.turn + 1; looked_empty = n == length q.taken }

-- it has loaded the written count, after it had found the flag set
abbrev pub looks_last : Receiving → ℕ → Receiving
looks_last q n = record q { avail = n; turn = q.turn + 1; final = true; looked = q.turn + 1; looked_empty = n == length q.taken }

-- it has loaded the written count: one of these two, by what it last found in the flag
abbrev pub sees_written : Receiving → ℕ → Receiving
sees_written q n = cond (q.flag_value == 1) (looks_last q n) (looks_written q n)

-- it has taken a word
abbrev pub takes : Receiving → ℕ → Receiving
takes q x = record q { taken = q.taken ++ x ∷ []; turn = q.turn + 1 }

-- it has stored the read count
abbrev pub gives_back : Receiving → Receiving
gives_back q = record q { returned = length q.taken; turn = q.turn + 1 }

-- it has set the flag
abbrev pub receiver_leaves : Receiving → Receiving
receiver_leaves q = record q { gone = true; turn = q.turn + 1 }

-- it has found x in the flag
abbrev pub receiver_sees_flag : Receiving → ℕ → Receiving
receiver_sees_flag q x = record q { turn = q.turn + 1; flag_turn = q.turn + 1; flag_value = x }
