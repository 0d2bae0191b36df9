-- The steps of tokens, one by one, and the runs that they make up.
use Rattle.std.specs.Prelude.{◌≡◌, ◌≢◌, ℕ, ◌+◌, ◌^◌, ◌<◌, false, List, [], ◌∷◌, ◌++◌, length, replicate, slice_set, Some, None}
use mathlib.Core.Option.{some}
use lib.ListN.{get_elem?}
use Rattle.std.specs.FinMap as fin
use Rattle.word_map.specs.WordMap.{WordMap, Has, range_of, rest_of, union, numbered, values_from}
use Rattle.ring_rule.specs.Frames.{IsFramed}
use Rattle.ring_rule.specs.Ring.{Ring, Sending, Receiving, place_of, count_word}
use Rattle.ring_rule.specs.Ends.{first_sending, first_receiving, IsReadCount, IsWrittenCount, looks_read, puts, publishes, sender_leaves, sender_sees_flag, looks_written, looks_last, takes, gives_back, receiver_leaves, receiver_sees_flag}
use Rattle.region_rule.specs.RingMap.{ring_map, IsFresh}
use Rattle.region_rule.specs.View.{View, Own, Frozen, Sender, Receiver, Done, Spent, Olds}
use Rattle.region_rule.specs.Sound.{World, Sees}
use Rattle.std.specs.Prelude.{Option}

-- One step of one token: a load or a store of one word, or a move of tokens. A load names the value that it finds
pub data Event : Type 0 where
  Load : (token word found : ℕ) → Event
  Store : (token word value : ℕ) → Event
  Split : (token from len : ℕ) → Event
  Join : (token other : ℕ) → Event
  Freeze : (token word found : ℕ) → Event
  Share : (token : ℕ) → Event
  LoadFrozen : (token word found : ℕ) → Event
  EndShare : (token other : ℕ) → Event
  Gather : (token other : ℕ) → Event
  MakeRing : (token : ℕ) (ring : Ring) → Event
  LoadRead : (token found : ℕ) → Event
  StoreData : (token value : ℕ) → Event
  StoreWritten : (token : ℕ) → Event
  LoadWritten : (token found : ℕ) → Event
  LoadData : (token found : ℕ) → Event
  StoreRead : (token : ℕ) → Event
  StoreSenderFlag : (token : ℕ) → Event
  StoreReceiverFlag : (token : ℕ) → Event
  LoadSenderFlag : (token found : ℕ) → Event
  LoadReceiverFlag : (token found : ℕ) → Event
  LoadWrittenLast : (token found : ℕ) → Event
  JoinEnds : (sender receiver : ℕ) → Event
  LoadDone : (token word found : ℕ) → Event
  EndDone : (token word found : ℕ) → Event
  PartAgain : (token : ℕ) → Event

-- word k has the value x
abbrev pub Finds : World → ℕ → ℕ → Type 0
Finds w k x = get_elem? w.words k ≡ some x

-- the world in which one token has another view
abbrev pub seen_anew : World → ℕ → View → World
seen_anew w i v = record { words = w.words; views = slice_set w.views i v }

-- the same, and a word has another value too
abbrev pub written_anew : World → ℕ → ℕ → ℕ → View → World
written_anew w k x i v = record { words = slice_set w.words k x; views = slice_set w.views i v }

-- the same, and a new token comes
abbrev pub cut_anew : World → ℕ → View → View → World
cut_anew w i v new = record { words = w.words; views = slice_set w.views i v ++ new ∷ [] }

-- the same, and another token is spent
abbrev pub joined_anew : World → ℕ → View → ℕ → World
joined_anew w i v j = record { words = w.words; views = slice_set (slice_set w.views i v) j Spent }

-- The step leads from one world to the other. A step of an end, other than a meeting, asks that the end has not set the
-- flag
abbrev pub Happens : Event → World → World → Type 0
Happens (Load i k x) before after = (m : WordMap) × (olds : Olds) × Sees before i (Own m olds) × Finds before k x × (after ≡ seen_anew before i (Own m None))
Happens (Store i k x) before after =
    (m : WordMap) × (olds : Olds) × Sees before i (Own m olds) × Has m k × (x < 2 ^ 64) × (after ≡ written_anew before k x i (Own (fin.insert m k x) olds))
Happens (Split i from len) before after =
    (m : WordMap) × (olds : Olds) × Sees before i (Own m olds) × (after ≡ cut_anew before i (Own (rest_of m from len) olds) (Own (range_of m from len) None))
Happens (Join i j) before after =
    (m n : WordMap) × (one other : Olds) × Sees before i (Own m one) × Sees before j (Own n other) × (j ≢ i)
    × (after ≡ joined_anew before i (Own (union m n) (Some (m, n))) j)
Happens (Freeze i k x) before after = (m : WordMap) × (olds : Olds) × Sees before i (Own m olds) × Finds before k x × (after ≡ seen_anew before i (Frozen m))
Happens (Share i) before after = (m : WordMap) × Sees before i (Frozen m) × (after ≡ cut_anew before i (Frozen m) (Frozen m))
Happens (LoadFrozen i k x) before after = (m : WordMap) × Sees before i (Frozen m) × Finds before k x × (after ≡ seen_anew before i (Frozen m))
Happens (EndShare i j) before after = (m : WordMap) × Sees before i (Frozen m) × Sees before j (Frozen m) × (j ≢ i) × (after ≡ joined_anew before i (Frozen m) j)
Happens (Gather i j) before after = (m n : WordMap) × Sees before i (Frozen m) × Sees before j (Frozen n) × (j ≢ i) × (after ≡ joined_anew before i (Frozen (union m n)) j)
Happens (MakeRing i r) before after =
    (m : WordMap) × (olds : Olds) × Sees before i (Own m olds) × IsFresh m r
    × (after ≡ cut_anew before i (Sender (first_sending r (values_from m (r.base + 3) r.size)) None) (Receiver (first_receiving r) None))
Happens (LoadRead i x) before after =
    (s : Sending) × (told : Option Receiving) × (n : ℕ) × Sees before i (Sender s told) × (s.gone ≡ false)
    × Finds before (s.ring.base + 1) x × IsReadCount s x n × (after ≡ seen_anew before i (Sender (looks_read s n) told))
Happens (StoreData i x) before after =
    (s : Sending) × (told : Option Receiving) × Sees before i (Sender s told) × (s.gone ≡ false)
    × (length s.put < s.room + s.ring.size) × IsFramed s.ring.max (s.put ++ x ∷ []) × (x < 2 ^ 64)
    × (after ≡ written_anew before (place_of s.ring (length s.put)) x i (Sender (puts s x) told))
Happens (StoreWritten i) before after =
    (s : Sending) × (told : Option Receiving) × Sees before i (Sender s told) × (s.gone ≡ false)
    × (after ≡ written_anew before s.ring.base (count_word s.ring (length s.put)) i (Sender (publishes s) told))
Happens (LoadWritten i x) before after =
    (q : Receiving) × (told : Option Sending) × (n : ℕ) × Sees before i (Receiver q told) × (q.gone ≡ false) × (q.flag_value ≢ 1)
    × Finds before q.ring.base x × IsWrittenCount q x n × (after ≡ seen_anew before i (Receiver (looks_written q n) told))
Happens (LoadData i x) before after =
    (q : Receiving) × (told : Option Sending) × Sees before i (Receiver q told) × (q.gone ≡ false)
    × (length q.taken < q.avail) × Finds before (place_of q.ring (length q.taken)) x × (after ≡ seen_anew before i (Receiver (takes q x) told))
Happens (StoreRead i) before after =
    (q : Receiving) × (told : Option Sending) × Sees before i (Receiver q told) × (q.gone ≡ false)
    × (after ≡ written_anew before (q.ring.base + 1) (count_word q.ring (length q.taken)) i (Receiver (gives_back q) told))
Happens (StoreSenderFlag i) before after =
    (s : Sending) × (told : Option Receiving) × Sees before i (Sender s told) × (s.gone ≡ false)
    × (after ≡ written_anew before (s.ring.base + 2) 1 i (Sender (sender_leaves s) told))
Happens (StoreReceiverFlag i) before after =
    (q : Receiving) × (told : Option Sending) × Sees before i (Receiver q told) × (q.gone ≡ false)
    × (after ≡ written_anew before (q.ring.base + 2) 1 i (Receiver (receiver_leaves q) told))
Happens (LoadSenderFlag i x) before after =
    (s : Sending) × (told : Option Receiving) × Sees before i (Sender s told) × (s.gone ≡ false) × Finds before (s.ring.base + 2) x
    × (after ≡ seen_anew before i (Sender (sender_sees_flag s x) told))
Happens (LoadReceiverFlag i x) before after =
    (q : Receiving) × (told : Option Sending) × Sees before i (Receiver q told) × (q.gone ≡ false) × Finds before (q.ring.base + 2) x
    × (after ≡ seen_anew before i (Receiver (receiver_sees_flag q x) told))
Happens (LoadWrittenLast i x) before after =
    (q : Receiving) × (told : Option Sending) × (n : ℕ) × Sees before i (Receiver q told) × (q.gone ≡ false) × (q.flag_value ≡ 1)
    × Finds before q.ring.base x × IsWrittenCount q x n × (after ≡ seen_anew before i (Receiver (looks_last q n) told))
Happens (JoinEnds i j) before after =
    (s : Sending) × (t : Option Receiving) × (q : Receiving) × (u : Option Sending)
    × Sees before i (Sender s t) × Sees before j (Receiver q u) × (s.ring ≡ q.ring) × (j ≢ i) × (after ≡ joined_anew before i (Done (ring_map s q) s q) j)
Happens (LoadDone i k x) before after =
    (m : WordMap) × (s : Sending) × (q : Receiving) × Sees before i (Done m s q) × Finds before k x × (after ≡ seen_anew before i (Done m s q))
Happens (EndDone i k x) before after =
    (m : WordMap) × (s : Sending) × (q : Receiving) × Sees before i (Done m s q) × Finds before k x × (after ≡ seen_anew before i (Own m None))
Happens (PartAgain i) before after =
    (m : WordMap) × (s : Sending) × (q : Receiving) × Sees before i (Done m s q) × (after ≡ cut_anew before i (Sender s (Some q)) (Receiver q (Some s)))

-- the steps lead, one after the other, from one world to the other
abbrev pub Run : List Event → World → World → Type 0
Run [] before after = before ≡ after
Run (e ∷ es) before after = (between : World) × Happens e before between × Run es between after

-- one token owns all words
abbrev pub opening : List ℕ → World
opening words = record { words = words; views = Own (numbered 0 words) None ∷ [] }

-- some steps lead here from the given number of words, all 0, which one token owns
abbrev pub Reached : ℕ → List ℕ → List View → Type 0
Reached count words views = (events : List Event) × Run events (opening (replicate count 0)) record { words = words; views = views }
