-- The steps of the sender: after each its own rules hold, and those that tie it to the receiver.
use Rattle.std.proofs.Common.{◌≡◌, ◌≢◌, ℕ, ◌+◌, ◌<◌, ◌≤◌, Bool, true, false, ◌||◌, List, [], ◌∷◌, ◌++◌, slice_set, length, Option, refl, sym, ap, subst, ◌∙◌, ⊎_elim, arith, length-append, length-set, append_assoc, mod-lt, le_trans, le_refl}
use mathlib.Core.Option.{some, some-injective}
use lib.ListN.{get_elem?}
use Rattle.atomic_table.proofs.Lists.{at_set, set_here, set_else, one_turn}
use Rattle.ring_rule.specs.Frames.{IsFramed}
use Rattle.ring_rule.specs.Ring.{Sending, Receiving, IsSendingEnd, IsSending, IsReceiving, ArePaired, cell_of, place_of, count_word, flag_word}
use Rattle.ring_rule.specs.Ends.{looks_read, puts, publishes, sender_leaves, sender_sees_flag}
use Rattle.ring_rule.proofs.Counts.{some_cells}
use Rattle.ring_rule.proofs.Stored.{in_list, has_at, snoc_place, receiving_set, same_base, told_sending}

-- it loads the read count
pub looks_read_own : (words : List ℕ) (s : Sending) (n : ℕ) → length s.put ≤ n + s.ring.size → IsSending words s → IsSending words (looks_read s n)
looks_read_own words s n near h = record {
  own = record { ring = h.own.ring; counted = h.own.counted; published = h.own.published; room = near; framed = h.own.framed };
  written = h.written;
  stored = h.stored;
}

pub looks_read_paired : (words : List ℕ) (s : Sending) (t : Option Receiving) (q : Receiving) (u : Option Sending) (n : ℕ) → n ≡ q.returned → ArePaired words s t q u → ArePaired words (looks_read s n) t q u
looks_read_paired words s t q u n is p =
    let old : s.room ≤ q.returned = p.tied.room in record {
      tied = record {
        same = p.tied.same;
        cells = p.tied.cells;
        taken = p.tied.taken;
        avail = p.tied.avail;
        room = omega arith;
        sender_flag = p.tied.sender_flag;
        receiver_flag = p.tied.receiver_flag;
        final = p.tied.final;
      };
      flag = p.flag;
      told_sender = p.told_sender;
      told_receiver = told_sending u s (looks_read s n) refl (le_refl s.published) (omega arith) (λ g. g) p.told_receiver;
    }

-- it stores a word
pub next_cell : (s : Sending) → IsSendingEnd s → cell_of s.ring (length s.put) < s.ring.size
next_cell s h = mod-lt (s.ring.start + length s.put) (some_cells s.ring h.ring)

pub puts_own : (words : List ℕ) (s : Sending) (x : ℕ) → length s.put < s.room + s.ring.size → IsFramed s.ring.max (s.put ++ x ∷ []) → IsSending words s
    → IsSending (slice_set words (place_of s.ring (length s.put)) x) (puts s x)
puts_own words s x room framed h =
    let c = cell_of s.ring (length s.put) in
    let k = place_of s.ring (length s.put) in
    let below : c < s.ring.size = next_cell s h.own in
    let counted : length s.cells ≡ s.ring.size = h.own.counted in
    let old = has_at s.cells c (omega arith) in
    let longer : length (s.put ++ x ∷ []) ≡ length s.put + 1 = length-append s.put (x ∷ []) in
    record {
      own = record {
        ring = h.own.ring;
        counted = length-set {A = ℕ} s.cells c x ∙ counted;
        published = let a = h.own.published in omega arith;
        room = omega arith;
        framed = framed;
      };
      written = set_else words k s.ring.base x (λ e. omega arith) ∙ h.written;
      stored = λ j y e. ⊎_elim
          (λ (p : (j ≡ c) × (x ≡ y)). subst (λ (z : ℕ). get_elem? (slice_set words k x) (s.ring.base + 3 + z) ≡ some y) (sym p.0)
          (set_here words k x (in_list words k old.0 (h.stored c old.0 old.1)) ∙ ap some p.1))
          (λ (p : (j ≢ c) × (get_elem? s.cells j ≡ some y)). set_else words k (s.ring.base + 3 + j) x (λ f. let n = p.0 in n (omega arith)) ∙ h.stored j y p.1)
          (at_set s.cells c j x y e);
    }

pub apart_cells : (s : Sending) (q : Receiving) (i : ℕ) → 0 < s.ring.size → length s.put < s.room + s.ring.size → s.room ≤ q.returned → q.returned ≤ i → i < length s.put
    → cell_of s.ring i ≢ cell_of s.ring (length s.put)
apart_cells s q i more room below from to e =
    let same : s.ring.start + i ≡ s.ring.start + length s.put = one_turn (s.ring.start + i) (s.ring.start + length s.put) s.ring.size (omega arith) (omega arith) e in
    omega arith

pub puts_paired : (words : List ℕ) (s : Sending) (t : Option Receiving) (q : Receiving) (u : Option Sending) (x : ℕ) → length s.put < s.room + s.ring.size → IsSendingEnd s → ArePaired words s t q u
    → ArePaired (slice_set words (place_of s.ring (length s.put)) x) (puts s x) t q u
puts_paired words s t q u x room h p =
    let c = cell_of s.ring (length s.put) in
    let k = place_of s.ring (length s.put) in
    let below : c < s.ring.size = next_cell s h in
    let counted : length s.cells ≡ s.ring.size = h.counted in
    record {
      tied = record {
        same = p.tied.same;
        cells = λ m y from e. ⊎_elim
            (λ (b : get_elem? s.put m ≡ some y).
            set_else s.cells c (cell_of s.ring m) x (apart_cells s q m (some_cells s.ring h.ring) room p.tied.room from (in_list s.put m y b)) ∙ p.tied.cells m y from b)
            (λ (b : (m ≡ length s.put) × (x ≡ y)). subst (λ (z : ℕ). get_elem? (slice_set s.cells c x) (cell_of s.ring z) ≡ some y) (sym b.0)
            (set_here s.cells c x (omega arith) ∙ ap some b.1))
            (snoc_place s.put x y m e);
        taken = (p.tied.taken.0 ++ x ∷ [], ap (λ (l : List ℕ). l ++ x ∷ []) p.tied.taken.1 ∙ append_assoc q.taken p.tied.taken.0 (x ∷ []));
        avail = p.tied.avail;
        room = p.tied.room;
        sender_flag = p.tied.sender_flag;
        receiver_flag = p.tied.receiver_flag;
        final = p.tied.final;
      };
      flag = set_else words k (s.ring.base + 2) x (λ e. omega arith) ∙ p.flag;
      told_sender = p.told_sender;
      told_receiver = told_sending u s (puts s x) refl (le_refl s.published) (le_refl s.room) (λ z. z) p.told_receiver;
    }

-- the receiver's count is none of the words that the sender stores
pub puts_other : (words : List ℕ) (s : Sending) (q : Receiving) (x : ℕ) → s.ring ≡ q.ring → IsReceiving words q → IsReceiving (slice_set words (place_of s.ring (length s.put)) x) q
puts_other words s q x same h = let b = same_base s q same in receiving_set words (place_of s.ring (length s.put)) x q (λ e. omega arith) h

-- it stores the written count
pub publishes_own : (words : List ℕ) (s : Sending) → IsSending words s → IsSending (slice_set words s.ring.base (count_word s.ring (length s.put))) (publishes s)
publishes_own words s h =
    let k = s.ring.base in
    let n = count_word s.ring (length s.put) in
    record {
      own = record { ring = h.own.ring; counted = h.own.counted; published = le_refl (length s.put); room = h.own.room; framed = h.own.framed };
      written = set_here words k n (in_list words k (count_word s.ring s.published) h.written);
      stored = λ j y e. set_else words k (s.ring.base + 3 + j) n (λ f. omega arith) ∙ h.stored j y e;
    }

pub publishes_paired : (words : List ℕ) (s : Sending) (t : Option Receiving) (q : Receiving) (u : Option Sending) → s.gone ≡ false → IsSendingEnd s → ArePaired words s t q u
    → ArePaired (slice_set words s.ring.base (count_word s.ring (length s.put))) (publishes s) t q u
publishes_paired words s t q u stays h p =
    let more : s.published ≤ length s.put = h.published in
    record {
      tied = record {
        same = p.tied.same;
        cells = p.tied.cells;
        taken = p.tied.taken;
        avail = le_trans p.tied.avail more;
        room = p.tied.room;
        sender_flag = p.tied.sender_flag;
        receiver_flag = p.tied.receiver_flag;
        final = λ f. absurd (let x : false ≡ true = sym stays ∙ (p.tied.final f).0 in cc);
      };
      flag = set_else words s.ring.base (s.ring.base + 2) (count_word s.ring (length s.put)) (λ e. omega arith) ∙ p.flag;
      told_sender = p.told_sender;
      told_receiver = told_sending u s (publishes s) refl more (le_refl s.room) (λ z. z) p.told_receiver;
    }

pub publishes_other : (words : List ℕ) (s : Sending) (q : Receiving) (n : ℕ) → s.ring ≡ q.ring → IsReceiving words q → IsReceiving (slice_set words s.ring.base n) q
publishes_other words s q n same h = let b = same_base s q same in receiving_set words s.ring.base n q (λ e. omega arith) h

-- it sets the flag
pub sender_leaves_own : (words : List ℕ) (s : Sending) → IsSending words s → IsSending (slice_set words (s.ring.base + 2) 1) (sender_leaves s)
sender_leaves_own words s h =
    let k = s.ring.base + 2 in
    record {
      own = record { ring = h.own.ring; counted = h.own.counted; published = h.own.published; room = h.own.room; framed = h.own.framed };
      written = set_else words k s.ring.base 1 (λ e. omega arith) ∙ h.written;
      stored = λ j y e. set_else words k (s.ring.base + 3 + j) 1 (λ f. omega arith) ∙ h.stored j y e;
    }

pub sender_leaves_paired : (words : List ℕ) (s : Sending) (t : Option Receiving) (q : Receiving) (u : Option Sending) → ArePaired words s t q u
    → ArePaired (slice_set words (s.ring.base + 2) 1) (sender_leaves s) t q u
sender_leaves_paired words s t q u p = record {
  tied = record {
    same = p.tied.same;
    cells = p.tied.cells;
    taken = p.tied.taken;
    avail = p.tied.avail;
    room = p.tied.room;
    sender_flag = p.tied.sender_flag;
    receiver_flag = λ _. refl;
    final = λ f. (refl, (p.tied.final f).1);
  };
  flag = set_here words (s.ring.base + 2) 1 (in_list words (s.ring.base + 2) (flag_word (s.gone || q.gone)) p.flag);
  told_sender = p.told_sender;
  told_receiver = told_sending u s (sender_leaves s) refl (le_refl s.published) (le_refl s.room) (λ z. refl) p.told_receiver;
}

pub sender_leaves_other : (words : List ℕ) (s : Sending) (q : Receiving) → s.ring ≡ q.ring → IsReceiving words q → IsReceiving (slice_set words (s.ring.base + 2) 1) q
sender_leaves_other words s q same h = let b = same_base s q same in receiving_set words (s.ring.base + 2) 1 q (λ e. omega arith) h

-- it loads the flag
-- who has not set the flag finds in it whether the other end has
pub sender_finds : (words : List ℕ) (s : Sending) (t : Option Receiving) (q : Receiving) (u : Option Sending) (x : ℕ) → s.gone ≡ false → ArePaired words s t q u
    → get_elem? words (s.ring.base + 2) ≡ some x → x ≡ flag_word q.gone
sender_finds words s t q u x stays p found =
    some-injective x (flag_word q.gone) (sym found ∙ p.flag ∙ ap (λ b. some (flag_word (b || q.gone))) stays)

pub flag_set : (b : Bool) (x : ℕ) → x ≡ flag_word b → x ≡ 1 → b ≡ true
flag_set true x e f = refl
flag_set false x e f = absurd (omega arith)

pub sender_flag_own : (words : List ℕ) (s : Sending) (x : ℕ) → IsSending words s → IsSending words (sender_sees_flag s x)
sender_flag_own words s x h = record {
  own = record { ring = h.own.ring; counted = h.own.counted; published = h.own.published; room = h.own.room; framed = h.own.framed };
  written = h.written;
  stored = h.stored;
}

pub sender_flag_paired : (words : List ℕ) (s : Sending) (t : Option Receiving) (q : Receiving) (u : Option Sending) (x : ℕ) → x ≡ flag_word q.gone → ArePaired words s t q u
    → ArePaired words (sender_sees_flag s x) t q u
sender_flag_paired words s t q u x is p = record {
  tied = record {
    same = p.tied.same;
    cells = p.tied.cells;
    taken = p.tied.taken;
    avail = p.tied.avail;
    room = p.tied.room;
    sender_flag = flag_set q.gone x is;
    receiver_flag = p.tied.receiver_flag;
    final = p.tied.final;
  };
  flag = p.flag;
  told_sender = p.told_sender;
  told_receiver = told_sending u s (sender_sees_flag s x) refl (le_refl s.published) (le_refl s.room) (λ z. z) p.told_receiver;
}
