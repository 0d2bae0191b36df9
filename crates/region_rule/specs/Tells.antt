-- What a token learns by each of its steps, and the views that a cut and a join leave. A token of another kind than the
-- step's learns nothing.
use Rattle.std.specs.Prelude.{◌≡◌, ℕ, ◌+◌, ◌<◌, ◌≤◌, List, ◌∷◌, ◌++◌, [], length, true, Some, None, IfSome}
use Rattle.std.specs.List.{fold}
use Rattle.std.specs.FinMap as fin
use Rattle.word_map.specs.WordMap.{at, range_of, rest_of, union, values_from}
use Rattle.ring_rule.specs.Frames.{IsFramed}
use Rattle.ring_rule.specs.Ring.{Ring, AreEnds}
use Rattle.ring_rule.specs.Ends.{first_sending, first_receiving, IsReadCount, IsWrittenCount, looks_read, puts, publishes, sender_leaves, sender_sees_flag, sees_written, takes, gives_back, receiver_leaves, receiver_sees_flag}
use Rattle.region_rule.specs.RingMap.{ring_map}
use Rattle.region_rule.specs.View.{View, Own, Frozen, Sender, Receiver, Done}
use Rattle.region_rule.specs.Sound.{OldsApart}

-- an owner that loads word k finds n: its own value, if it has the word. The two maps of its last join had no word in
-- common
abbrev pub TellsLoad : View → ℕ → ℕ → View → Type 0
TellsLoad (Own m olds) k n after = IfSome (at m k) (λ x. x ≡ n) × OldsApart olds × (after ≡ Own m None)
TellsLoad u k n after = ⊥

-- an owner that was joined to another learns that their maps had no word in common
abbrev pub TellsApart : View → View → Type 0
TellsApart (Own m olds) after = OldsApart olds × (after ≡ Own m None)
TellsApart u after = ⊥

-- an owner that stores n in word k has its map with n there
abbrev pub TellsStore : View → ℕ → ℕ → View → Type 0
TellsStore (Own m olds) k n after = after ≡ Own (fin.insert m k n) olds
TellsStore u k n after = ⊥

-- an owner keeps all but a range of its words
abbrev pub rest_view : ℕ → ℕ → View → View
rest_view from len (Own m olds) = Own (rest_of m from len) olds
rest_view from len u = u

-- a new token has the range
abbrev pub range_view : ℕ → ℕ → View → View
range_view from len (Own m olds) = Own (range_of m from len) None
range_view from len u = u

-- an owner takes in another
abbrev pub both_view : View → View → View
both_view (Own m one) (Own n other) = Own (union m n) (Some (m, n))
both_view u v = u

-- an owner freezes its words
abbrev pub TellsFreeze : View → View → Type 0
TellsFreeze (Own m olds) after = after ≡ Frozen m
TellsFreeze u after = ⊥

-- a load of a frozen word finds its value
abbrev pub TellsFrozen : View → ℕ → ℕ → View → Type 0
TellsFrozen (Frozen m) k n after = IfSome (at m k) (λ x. x ≡ n) × (after ≡ Frozen m)
TellsFrozen u k n after = ⊥

-- a token of frozen words takes in another
abbrev pub gathered_view : View → View → View
gathered_view (Frozen m) (Frozen n) = Frozen (union m n)
gathered_view u v = u

-- an owner of just a ring becomes its sender
abbrev pub sender_view : Ring → View → View
sender_view r (Own m olds) = Sender (first_sending r (values_from m (r.base + 3) r.size)) None
sender_view r u = u

-- the receiver's view of a ring that is made
abbrev pub receiver_view : Ring → View → View
receiver_view r (Own m olds) = Receiver (first_receiving r) None
receiver_view r u = u

-- a sender that loads the read count finds the word of a count that is no less than it saw, nor than it learnt of at
-- the last meeting
abbrev pub TellsLookRead : View → ℕ → View → Type 0
TellsLookRead (Sender s t) x after = (n : ℕ) × (after ≡ Sender (looks_read s n) t) × IsReadCount s x n × (s.room ≤ n) × IfSome t (λ old. old.returned ≤ n)
TellsLookRead u x after = ⊥

-- a sender stores a word
abbrev pub TellsPut : View → ℕ → View → Type 0
TellsPut (Sender s t) x after = after ≡ Sender (puts s x) t
TellsPut u x after = ⊥

-- a sender stores a row of words
abbrev pub TellsPutRow : View → List ℕ → View → Type 0
TellsPutRow (Sender s t) xs after = after ≡ Sender (fold puts s xs) t
TellsPutRow u xs after = ⊥

-- a sender stores the written count
abbrev pub TellsPublish : View → View → Type 0
TellsPublish (Sender s t) after = after ≡ Sender (publishes s) t
TellsPublish u after = ⊥

-- a receiver that loads the written count finds the word of a count that is no less than it saw, nor than it learnt of
-- at the last meeting. By what it last found in the flag it has seen all or not
abbrev pub TellsLookWritten : View → ℕ → View → Type 0
TellsLookWritten (Receiver q u) x after = (n : ℕ) × (after ≡ Receiver (sees_written q n) u) × IsWrittenCount q x n × (q.avail ≤ n) × IfSome u (λ old. old.published ≤ n)
TellsLookWritten v x after = ⊥

-- a receiver takes a word. What it has taken is a beginning of the frames of some messages, as what was put is
abbrev pub TellsTake : View → ℕ → View → Type 0
TellsTake (Receiver q u) x after = (after ≡ Receiver (takes q x) u) × IsFramed q.ring.max (q.taken ++ x ∷ [])
TellsTake v x after = ⊥

-- a receiver takes a row of words
abbrev pub TellsTakeRow : View → List ℕ → View → Type 0
TellsTakeRow (Receiver q u) xs after = (after ≡ Receiver (fold takes q xs) u) × (0 < length xs → IsFramed q.ring.max (q.taken ++ xs))
TellsTakeRow v xs after = ⊥

-- a receiver stores the read count
abbrev pub TellsGiveBack : View → View → Type 0
TellsGiveBack (Receiver q u) after = after ≡ Receiver (gives_back q) u
TellsGiveBack v after = ⊥

-- an end sets the flag
abbrev pub TellsLeave : View → View → Type 0
TellsLeave (Sender s t) after = after ≡ Sender (sender_leaves s) t
TellsLeave (Receiver q u) after = after ≡ Receiver (receiver_leaves q) u
TellsLeave u after = ⊥

-- an end loads the flag and finds 0 or 1; it finds 1 if it has learnt that the other end is gone, and 1 again if it
-- found 1 before
abbrev pub TellsFlag : View → ℕ → View → Type 0
TellsFlag (Sender s t) x after = (after ≡ Sender (sender_sees_flag s x) t) × (x ≤ 1) × IfSome t (λ old. old.gone ≡ true → x ≡ 1) × (s.flag_value ≡ 1 → x ≡ 1)
TellsFlag (Receiver q u) x after = (after ≡ Receiver (receiver_sees_flag q x) u) × (x ≤ 1) × IfSome u (λ old. old.gone ≡ true → x ≡ 1) × (q.flag_value ≡ 1 → x ≡ 1)
TellsFlag u x after = ⊥

-- two ends are joined
abbrev pub done_view : View → View → View
done_view (Sender s t) (Receiver q u) = Done (ring_map s q) s q
done_view u v = u

-- they part: the joined token is the sender again
abbrev pub sender_again : View → View
sender_again (Done m s q) = Sender s (Some q)
sender_again u = u

-- and the new token is the receiver again
abbrev pub receiver_again : View → View
receiver_again (Done m s q) = Receiver q (Some s)
receiver_again u = u

-- the joined ends learn what holds of them together
abbrev pub TellsDone : View → View → Type 0
TellsDone (Done m s q) after = AreEnds s q × (after ≡ Done m s q)
TellsDone u after = ⊥

-- the joined ends find n in word k: the value of their map
abbrev pub TellsCount : View → ℕ → ℕ → Type 0
TellsCount (Done m s q) k n = IfSome (at m k) (λ x. x ≡ n)
TellsCount u k n = ⊥

-- the joined ends become the owner of the ring's words
abbrev pub TellsEnd : View → View → Type 0
TellsEnd (Done m s q) after = AreEnds s q × (after ≡ Own m None)
TellsEnd u after = ⊥
