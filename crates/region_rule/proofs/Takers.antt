-- No two tokens take one slot, and none takes a slot whose word another looks for in the table's words.
use Rattle.std.proofs.Common.{◌≡◌, ℕ, ◌+◌, ◌<◌, ◌≤◌, List, length, Option, sym, ap, subst, arith, mod-lt}
use Rattle.atomic_table.proofs.Lists.{one_turn}
use Rattle.word_map.specs.WordMap.{WordMap, Has}
use Rattle.ring_rule.specs.Ring.{Ring, IsRing, Sending, Receiving, IsSendingEnd, ArePaired, cell_of}
use Rattle.ring_rule.proofs.Counts.{some_cells}
use Rattle.region_rule.specs.View.{View, Own, Frozen, Sender, Receiver, Done, Spent, Holds, MayShare}
use Rattle.region_rule.specs.Sound.{Honest}
use Rattle.region_rule.specs.Places.{InSlot, InWord, MayTake, Sole}
use Rattle.region_rule.proofs.Meets.{covers}

a_cell : (r : Ring) (n : ℕ) → IsRing r → cell_of r n < r.size
a_cell r n ring = mod-lt (r.start + n) (some_cells r ring)

pub take_holds : (words : List ℕ) (u : View) (k : ℕ) → Honest words u → MayTake u k → Holds u k
take_holds words (Own m o) k h p = p
take_holds words (Frozen m) k h p = absurd p
take_holds words (Sender s t) k h p = let c = a_cell s.ring p.0 h.own.ring in let e = p.1 in (omega arith, omega arith)
take_holds words (Receiver q u) k h p = let c = a_cell q.ring p.0 h.own.ring in let e = p.1 in (omega arith, omega arith)
take_holds words (Done m s q) k h p = p
take_holds words Spent k h p = absurd p

pub word_holds : (words : List ℕ) (u : View) (k : ℕ) → Honest words u → InWord u k → Holds u k
word_holds words (Own m o) k h p = absurd p
word_holds words (Frozen m) k h p = p
word_holds words (Sender s t) k h p = let a = p.0 in let b = p.1 in (omega arith, omega arith)
word_holds words (Receiver q u) k h p = let a = p.0 in let b = p.1 in (omega arith, omega arith)
word_holds words (Done m s q) k h p =
    let a = p.0 in
    let b = p.1 in
    subst (λ (n : WordMap). Has n k) (sym h.1) (covers s q h.2.sender.counted k (omega arith, omega arith))
word_holds words Spent k h p = absurd p

pub slot_holds : (words : List ℕ) (u : View) (k : ℕ) → Honest words u → InSlot u k → Holds u k
slot_holds words (Own m o) k h p = p
slot_holds words (Frozen m) k h p = absurd p
slot_holds words (Sender s t) k h p = let a = p.0 in let b = p.1 in (omega arith, omega arith)
slot_holds words (Receiver q u) k h p = let a = p.0 in let b = p.1 in (omega arith, omega arith)
slot_holds words (Done m s q) k h p =
    let a = p.0 in
    let b = p.1 in
    subst (λ (n : WordMap). Has n k) (sym h.1) (covers s q h.2.sender.counted k (omega arith, omega arith))
slot_holds words Spent k h p = absurd p

pub sole_holds : (u : View) (k : ℕ) → Sole u k → Holds u k
sole_holds (Own m o) k p = p
sole_holds (Frozen m) k p = absurd p
sole_holds (Sender s t) k p = absurd p
sole_holds (Receiver q u) k p = absurd p
sole_holds (Done m s q) k p = p
sole_holds Spent k p = absurd p

-- the cell of a word to come is not the one of a word that lies there
next_apart : (words : List ℕ) (s : Sending) (t : Option Receiving) (q : Receiving) (u : Option Sending) (k : ℕ) → IsSendingEnd s → ArePaired words s t q u → MayTake (Sender s t) k → MayTake (Receiver q u) k
    → q.returned ≤ length q.taken → ⊥
next_apart words s t q u k own pair a b back =
    let put = a.2 in
    let room = a.3 in
    let there = b.2 in
    let ready = b.3 in
    let seen = pair.tied.avail in
    let most = own.published in
    let given = pair.tied.room in
    let same : cell_of s.ring b.0 ≡ cell_of q.ring b.0 = ap (λ (r : Ring). cell_of r b.0) pair.tied.same in
    let base : s.ring.base ≡ q.ring.base = ap (λ (r : Ring). r.base) pair.tied.same in
    let mine = a.1 in
    let yours = b.1 in
    let one : cell_of s.ring b.0 ≡ cell_of s.ring a.0 = omega arith in
    let turn : s.ring.start + b.0 ≡ s.ring.start + a.0 = one_turn (s.ring.start + b.0) (s.ring.start + a.0) s.ring.size (omega arith) (omega arith) one in
    omega arith

pub one_taker : (words : List ℕ) (u v : View) (k : ℕ) → Honest words u → Honest words v → MayTake u k → MayTake v k → MayShare words u v k → ⊥
one_taker words (Own m o) v k h g a b c = c
one_taker words (Frozen m) v k h g a b c = a
one_taker words (Sender s t) (Receiver q u) k h g a b c = next_apart words s t q u k h.own c a b g.own.returned
one_taker words (Sender s t) v k h g a b c = c
one_taker words (Receiver q u) (Sender s t) k h g a b c = next_apart words s t q u k g.own c b a h.own.returned
one_taker words (Receiver q u) v k h g a b c = c
one_taker words (Done m s q) v k h g a b c = c
one_taker words Spent v k h g a b c = c

-- a slot that is taken is not the place of a count
pub word_free : (words : List ℕ) (u v : View) (k : ℕ) → MayTake u k → InWord v k → MayShare words u v k → ⊥
word_free words (Own m o) v k a b c = c
word_free words (Frozen m) v k a b c = a
word_free words (Sender s t) (Receiver q u) k a b c =
    let base : s.ring.base ≡ q.ring.base = ap (λ (r : Ring). r.base) c.tied.same in let mine = a.1 in let yours = b.1 in omega arith
word_free words (Sender s t) v k a b c = c
word_free words (Receiver q u) (Sender s t) k a b c =
    let base : s.ring.base ≡ q.ring.base = ap (λ (r : Ring). r.base) c.tied.same in let mine = a.1 in let yours = b.1 in omega arith
word_free words (Receiver q u) v k a b c = c
word_free words (Done m s q) v k a b c = c
word_free words Spent v k a b c = c

pub slot_free : (words : List ℕ) (u v : View) (k : ℕ) → InWord u k → InSlot v k → MayShare words u v k → ⊥
slot_free words (Own m o) v k a b c = c
slot_free words (Frozen m) (Frozen n) k a b c = b
slot_free words (Frozen m) v k a b c = c
slot_free words (Sender s t) (Receiver q u) k a b c =
    let base : s.ring.base ≡ q.ring.base = ap (λ (r : Ring). r.base) c.tied.same in let mine = a.1 in let yours = b.0 in omega arith
slot_free words (Sender s t) v k a b c = c
slot_free words (Receiver q u) (Sender s t) k a b c =
    let base : s.ring.base ≡ q.ring.base = ap (λ (r : Ring). r.base) c.tied.same in let mine = a.1 in let yours = b.0 in omega arith
slot_free words (Receiver q u) v k a b c = c
slot_free words (Done m s q) v k a b c = c
slot_free words Spent v k a b c = c

-- a word is a cell or not
pub one_place : (u : View) (k : ℕ) → InSlot u k → InWord u k → ⊥
one_place (Own m o) k a b = b
one_place (Frozen m) k a b = a
one_place (Sender s t) k a b = let x = a.0 in let y = b.1 in omega arith
one_place (Receiver q u) k a b = let x = a.0 in let y = b.1 in omega arith
one_place (Done m s q) k a b = let x = a.0 in let y = b.1 in omega arith
one_place Spent k a b = a

pub sole_free : (words : List ℕ) (u v : View) (k : ℕ) → Sole v k → MayShare words u v k → ⊥
sole_free words (Own m o) v k b c = c
sole_free words (Frozen m) (Frozen n) k b c = b
sole_free words (Frozen m) v k b c = c
sole_free words (Sender s t) (Receiver q u) k b c = b
sole_free words (Sender s t) v k b c = c
sole_free words (Receiver q u) (Sender s t) k b c = b
sole_free words (Receiver q u) v k b c = c
sole_free words (Done m s q) v k b c = c
sole_free words Spent v k b c = c
