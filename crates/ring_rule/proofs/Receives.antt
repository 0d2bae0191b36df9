-- The steps of the receiver: after each its own rules hold, and those that tie it to the sender.
use Rattle.std.proofs.Common.{◌≡◌, ℕ, ◌+◌, ◌<◌, ◌≤◌, Bool, true, false, ◌||◌, List, [], ◌∷◌, ◌++◌, slice_set, length, Option, refl, sym, ap, subst, ◌∙◌, arith, length-append, append_assoc, le_trans, le_refl}
use mathlib.Core.Option.{some, some-injective, some-ne-none}
use lib.ListN.{get_elem?}
use Rattle.atomic_table.proofs.Lists.{set_here, set_else}
use Rattle.ring_rule.specs.Ring.{Ring, Sending, Receiving, IsReceivingEnd, IsSending, IsReceiving, ArePaired, cell_of, place_of, count_word, flag_word}
use Rattle.ring_rule.specs.Ends.{looks_written, looks_last, takes, gives_back, receiver_leaves, receiver_sees_flag}
use Rattle.ring_rule.proofs.Stored.{in_list, has_at, sending_set, same_base, told_receiving}
use Rattle.ring_rule.proofs.Sends.{flag_set}

-- it loads the written count
pub looks_written_own : (words : List ℕ) (q : Receiving) (n : ℕ) → q.avail ≤ n → IsReceiving words q → IsReceiving words (looks_written q n)
looks_written_own words q n more h = record { own = record { ring = h.own.ring; returned = h.own.returned; taken = le_trans h.own.taken more }; read = h.read }

pub looks_written_paired : (words : List ℕ) (s : Sending) (t : Option Receiving) (q : Receiving) (u : Option Sending) (n : ℕ) → n ≡ s.published → ArePaired words s t q u
    → ArePaired words s t (looks_written q n) u
looks_written_paired words s t q u n is p =
    let old : q.avail ≤ s.published = p.tied.avail in record {
      tied = record {
        same = p.tied.same;
        cells = p.tied.cells;
        taken = p.tied.taken;
        avail = omega arith;
        room = p.tied.room;
        sender_flag = p.tied.sender_flag;
        receiver_flag = p.tied.receiver_flag;
        final = λ f. ((p.tied.final f).0, is);
      };
      flag = p.flag;
      told_sender = told_receiving t q (looks_written q n) refl (le_refl q.returned) (omega arith) (λ g. g) p.told_sender;
      told_receiver = p.told_receiver;
    }

-- it loads the written count after it has found the flag set
pub looks_last_own : (words : List ℕ) (q : Receiving) (n : ℕ) → q.avail ≤ n → IsReceiving words q → IsReceiving words (looks_last q n)
looks_last_own words q n more h = record { own = record { ring = h.own.ring; returned = h.own.returned; taken = le_trans h.own.taken more }; read = h.read }

pub looks_last_paired : (words : List ℕ) (s : Sending) (t : Option Receiving) (q : Receiving) (u : Option Sending) (n : ℕ) → n ≡ s.published → q.flag_value ≡ 1 → ArePaired words s t q u
    → ArePaired words s t (looks_last q n) u
looks_last_paired words s t q u n is one p =
    let old : q.avail ≤ s.published = p.tied.avail in record {
      tied = record {
        same = p.tied.same;
        cells = p.tied.cells;
        taken = p.tied.taken;
        avail = omega arith;
        room = p.tied.room;
        sender_flag = p.tied.sender_flag;
        receiver_flag = p.tied.receiver_flag;
        final = λ _. (p.tied.receiver_flag one, is);
      };
      flag = p.flag;
      told_sender = told_receiving t q (looks_last q n) refl (le_refl q.returned) (omega arith) (λ g. g) p.told_sender;
      told_receiver = p.told_receiver;
    }

-- it takes a word
after_taken : (taken rest : List ℕ) (x : ℕ) → get_elem? (taken ++ rest) (length taken) ≡ some x → (more : List ℕ) × (rest ≡ x ∷ more)
after_taken [] [] x e = absurd (some-ne-none x (sym e))
after_taken [] (y ∷ ys) x e = (ys, λ k. some-injective y x e k ∷ ys)
after_taken (z ∷ zs) rest x e = after_taken zs rest x e

next_word : (put taken rest : List ℕ) (x : ℕ) → put ≡ taken ++ rest → get_elem? put (length taken) ≡ some x → (more : List ℕ) × (put ≡ (taken ++ x ∷ []) ++ more)
next_word put taken rest x e f =
    let p = after_taken taken rest x (sym (ap (λ (l : List ℕ). get_elem? l (length taken)) e) ∙ f) in
    (p.0, e ∙ ap (λ (l : List ℕ). taken ++ l) p.1 ∙ sym (append_assoc taken (x ∷ []) p.0))

-- where the receiver looks for the next word there stands the next one that was put
pub next_there : (words : List ℕ) (s : Sending) (t : Option Receiving) (q : Receiving) (u : Option Sending) → IsSending words s → IsReceivingEnd q → ArePaired words s t q u
    → length q.taken < q.avail → (y : ℕ) × (get_elem? s.put (length q.taken) ≡ some y) × (get_elem? words (place_of q.ring (length q.taken)) ≡ some y)
next_there words s t q u g h p below =
    let short : length q.taken < length s.put = let a = p.tied.avail in let c = g.own.published in omega arith in
    let y = has_at s.put (length q.taken) short in
    let cell = p.tied.cells (length q.taken) y.0 h.returned y.1 in
    (y.0, y.1, subst (λ (r : Ring). get_elem? words (place_of r (length q.taken)) ≡ some y.0) p.tied.same (g.stored (cell_of s.ring (length q.taken)) y.0 cell))

-- the word that it finds is that one
pub next_is : (words : List ℕ) (s : Sending) (t : Option Receiving) (q : Receiving) (u : Option Sending) (x : ℕ) → IsSending words s → IsReceivingEnd q → ArePaired words s t q u
    → length q.taken < q.avail → get_elem? words (place_of q.ring (length q.taken)) ≡ some x → get_elem? s.put (length q.taken) ≡ some x
next_is words s t q u x g h p below found = let y = next_there words s t q u g h p below in y.1 ∙ (sym y.2 ∙ found)

pub takes_own : (words : List ℕ) (q : Receiving) (x : ℕ) → length q.taken < q.avail → IsReceiving words q → IsReceiving words (takes q x)
takes_own words q x below h =
    let longer : length (q.taken ++ x ∷ []) ≡ length q.taken + 1 = length-append q.taken (x ∷ []) in
    record { own = record { ring = h.own.ring; returned = let a = h.own.returned in omega arith; taken = omega arith }; read = h.read }

pub takes_paired : (words : List ℕ) (s : Sending) (t : Option Receiving) (q : Receiving) (u : Option Sending) (x : ℕ) → get_elem? s.put (length q.taken) ≡ some x → ArePaired words s t q u
    → ArePaired words s t (takes q x) u
takes_paired words s t q u x next p = record {
  tied = record {
    same = p.tied.same;
    cells = p.tied.cells;
    taken = next_word s.put q.taken p.tied.taken.0 x p.tied.taken.1 next;
    avail = p.tied.avail;
    room = p.tied.room;
    sender_flag = p.tied.sender_flag;
    receiver_flag = p.tied.receiver_flag;
    final = p.tied.final;
  };
  flag = p.flag;
  told_sender = told_receiving t q (takes q x) refl (le_refl q.returned) (le_refl q.avail) (λ g. g) p.told_sender;
  told_receiver = p.told_receiver;
}

-- it stores the read count
pub gives_back_own : (words : List ℕ) (q : Receiving) → IsReceiving words q → IsReceiving (slice_set words (q.ring.base + 1) (count_word q.ring (length q.taken))) (gives_back q)
gives_back_own words q h = record {
  own = record { ring = h.own.ring; returned = le_refl (length q.taken); taken = h.own.taken };
  read = set_here words (q.ring.base + 1) (count_word q.ring (length q.taken)) (in_list words (q.ring.base + 1) (count_word q.ring q.returned) h.read);
}

pub gives_back_paired : (words : List ℕ) (s : Sending) (t : Option Receiving) (q : Receiving) (u : Option Sending) → IsReceivingEnd q → ArePaired words s t q u
    → ArePaired (slice_set words (q.ring.base + 1) (count_word q.ring (length q.taken))) s t (gives_back q) u
gives_back_paired words s t q u h p =
    let more : q.returned ≤ length q.taken = h.returned in
    let b = same_base s q p.tied.same in
    record {
      tied = record {
        same = p.tied.same;
        cells = λ m y from e. p.tied.cells m y (le_trans more from) e;
        taken = p.tied.taken;
        avail = p.tied.avail;
        room = le_trans p.tied.room more;
        sender_flag = p.tied.sender_flag;
        receiver_flag = p.tied.receiver_flag;
        final = p.tied.final;
      };
      flag = set_else words (q.ring.base + 1) (s.ring.base + 2) (count_word q.ring (length q.taken)) (λ e. omega arith) ∙ p.flag;
      told_sender = told_receiving t q (gives_back q) refl more (le_refl q.avail) (λ z. z) p.told_sender;
      told_receiver = p.told_receiver;
    }

-- the sender has no word among the read count and the flag
pub receiver_other : (words : List ℕ) (s : Sending) (q : Receiving) (k n : ℕ) → s.ring ≡ q.ring → q.ring.base < k → k < q.ring.base + 3 → IsSending words s → IsSending (slice_set words k n) s
receiver_other words s q k n same low high h = let b = same_base s q same in sending_set words k n s (λ e. omega arith) (λ i l e. omega arith) h

-- it sets the flag
or_true : (b : Bool) → flag_word (b || true) ≡ 1
or_true true = refl
or_true false = refl

pub receiver_leaves_own : (words : List ℕ) (q : Receiving) → IsReceiving words q → IsReceiving (slice_set words (q.ring.base + 2) 1) (receiver_leaves q)
receiver_leaves_own words q h = record {
  own = record { ring = h.own.ring; returned = h.own.returned; taken = h.own.taken };
  read = set_else words (q.ring.base + 2) (q.ring.base + 1) 1 (λ e. omega arith) ∙ h.read;
}

pub receiver_leaves_paired : (words : List ℕ) (s : Sending) (t : Option Receiving) (q : Receiving) (u : Option Sending) → ArePaired words s t q u
    → ArePaired (slice_set words (q.ring.base + 2) 1) s t (receiver_leaves q) u
receiver_leaves_paired words s t q u p =
    let k : ℕ = q.ring.base + 2 in
    let b = same_base s q p.tied.same in
    let inside : k < length words = subst (λ (z : ℕ). z + 2 < length words) b (in_list words (s.ring.base + 2) (flag_word (s.gone || q.gone)) p.flag) in
    record {
      tied = record {
        same = p.tied.same;
        cells = p.tied.cells;
        taken = p.tied.taken;
        avail = p.tied.avail;
        room = p.tied.room;
        sender_flag = λ _. refl;
        receiver_flag = p.tied.receiver_flag;
        final = p.tied.final;
      };
      flag = subst (λ (z : ℕ). get_elem? (slice_set words k 1) (z + 2) ≡ some (flag_word (s.gone || true))) (sym b) (set_here words k 1 inside ∙ ap some (sym (or_true s.gone)));
      told_sender = told_receiving t q (receiver_leaves q) refl (le_refl q.returned) (le_refl q.avail) (λ z. refl) p.told_sender;
      told_receiver = p.told_receiver;
    }

-- it loads the flag
or_false : (b : Bool) → flag_word (b || false) ≡ flag_word b
or_false true = refl
or_false false = refl

pub receiver_finds : (words : List ℕ) (s : Sending) (t : Option Receiving) (q : Receiving) (u : Option Sending) (x : ℕ) → q.gone ≡ false → ArePaired words s t q u
    → get_elem? words (q.ring.base + 2) ≡ some x → x ≡ flag_word s.gone
receiver_finds words s t q u x stays p found =
    some-injective x (flag_word s.gone)
    (sym found ∙ subst (λ (r : Ring). get_elem? words (r.base + 2) ≡ some (flag_word (s.gone || q.gone))) p.tied.same p.flag
    ∙ ap (λ b. some (flag_word (s.gone || b))) stays ∙ ap some (or_false s.gone))

pub receiver_flag_own : (words : List ℕ) (q : Receiving) (x : ℕ) → IsReceiving words q → IsReceiving words (receiver_sees_flag q x)
receiver_flag_own words q x h = record { own = record { ring = h.own.ring; returned = h.own.returned; taken = h.own.taken }; read = h.read }

pub receiver_flag_paired : (words : List ℕ) (s : Sending) (t : Option Receiving) (q : Receiving) (u : Option Sending) (x : ℕ) → x ≡ flag_word s.gone → ArePaired words s t q u
    → ArePaired words s t (receiver_sees_flag q x) u
receiver_flag_paired words s t q u x is p = record {
  tied = record {
    same = p.tied.same;
    cells = p.tied.cells;
    taken = p.tied.taken;
    avail = p.tied.avail;
    room = p.tied.room;
    sender_flag = p.tied.sender_flag;
    receiver_flag = flag_set s.gone x is;
    final = p.tied.final;
  };
  flag = p.flag;
  told_sender = told_receiving t q (receiver_sees_flag q x) refl (le_refl q.returned) (le_refl q.avail) (λ z. z) p.told_sender;
  told_receiver = p.told_receiver;
}
