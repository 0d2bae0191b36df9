-- The size of a ring, and the counts that its words stand for.
use Rattle.std.proofs.Common.{◌≡◌, ℕ, ◌+◌, ◌-◌, ◌%◌, ◌^◌, ◌<◌, ◌≤◌, length, List, Option, sym, ap, subst, ◌∙◌, arith, pow_pos, pow_mono}
use Rattle.std.proofs.Math.Pow.{mod-mod-pow}
use mathlib.Core.Option.{some, some-injective}
use lib.ListN.{get_elem?}
use Rattle.ring_rule.specs.Ring.{Ring, IsRing, Sending, Receiving, IsSending, IsReceiving, ArePaired, count_word}
use Rattle.ring_rule.specs.Ends.{IsReadCount, IsWrittenCount}

-- a ring has at least one cell, and not too many
pub some_cells : (r : Ring) → IsRing r → 0 < r.size
some_cells r ring = subst (λ (n : ℕ). 0 < n) (sym ring.power.1) (pow_pos ring.power.0)

pub few_cells : (r : Ring) → IsRing r → r.size ≤ 1048576
few_cells r ring = subst (λ (n : ℕ). n ≤ 1048576) (sym ring.power.1) (pow_mono {i = ring.power.0} {j = 20} ring.power.2)

folded : (e n : ℕ) → e ≤ 20 → n % 2 ^ 64 % 2 ^ e ≡ n % 2 ^ e
folded e n h = ap (λ (k : ℕ). n % 2 ^ k % 2 ^ e) (let z : 64 ≡ (64 - e) + e = omega arith in z) ∙ mod-mod-pow n (64 - e) e

-- the word of a count tells its cell
pub cell_by_word : (r : Ring) (n : ℕ) → IsRing r → count_word r n % r.size ≡ (r.start + n) % r.size
cell_by_word r n ring =
    ap (λ (k : ℕ). (r.start + n) % 2 ^ 64 % k) ring.power.1 ∙ folded ring.power.0 (r.start + n) ring.power.2 ∙ ap (λ (k : ℕ). (r.start + n) % k) (sym ring.power.1)

same_above : (start m n low size : ℕ) → size ≤ 1048576 → low ≤ m → m ≤ low + size → low ≤ n → n ≤ low + size → (start + m) % 18446744073709551616 ≡ (start + n) % 18446744073709551616 → m ≡ n
same_above start m n low size few a b c d e = omega arith

same_below : (start m n top size : ℕ) → size ≤ 1048576 → m ≤ top → top ≤ m + size → n ≤ top → top ≤ n + size → (start + m) % 18446744073709551616 ≡ (start + n) % 18446744073709551616 → m ≡ n
same_below start m n top size few a b c d e = omega arith

-- the read count lies no more than a ring's length below what is put
pub read_count : (words : List ℕ) (s : Sending) (t : Option Receiving) (q : Receiving) (u : Option Sending) → IsSending words s → IsReceiving words q → ArePaired words s t q u
    → (get_elem? words (s.ring.base + 1) ≡ some (count_word s.ring q.returned)) × IsReadCount s (count_word s.ring q.returned) q.returned
read_count words s t q u a b p =
    let e = p.tied.same in
    let r1 = b.own.returned in
    let r2 = b.own.taken in
    let r3 = p.tied.avail in
    let r4 = a.own.published in
    let r5 = a.own.room in
    let r6 = p.tied.room in (
      subst (λ (r : Ring). get_elem? words (r.base + 1) ≡ some (count_word r q.returned)) (sym e) b.read,
      record { word = λ i. count_word s.ring q.returned; below = omega arith; near = omega arith },
    )

-- and what the sender finds there is that count
pub read_count_is : (words : List ℕ) (s : Sending) (t : Option Receiving) (q : Receiving) (u : Option Sending) (x n : ℕ) → IsSending words s → IsReceiving words q → ArePaired words s t q u
    → get_elem? words (s.ring.base + 1) ≡ some x → IsReadCount s x n → n ≡ q.returned
read_count_is words s t q u x n a b p found count =
    let there = read_count words s t q u a b p in
    let w : x ≡ count_word s.ring q.returned = some-injective x (count_word s.ring q.returned) (sym found ∙ there.0) in
    same_below s.ring.start n q.returned (length s.put) s.ring.size (few_cells s.ring a.own.ring) count.below count.near there.1.below there.1.near (sym count.word ∙ w)

-- the written count lies no more than a ring's length above what is given back
pub written_count : (words : List ℕ) (s : Sending) (t : Option Receiving) (q : Receiving) (u : Option Sending) → IsSending words s → IsReceiving words q → ArePaired words s t q u
    → (get_elem? words q.ring.base ≡ some (count_word q.ring s.published)) × IsWrittenCount q (count_word q.ring s.published) s.published
written_count words s t q u a b p =
    let e = p.tied.same in
    let size : s.ring.size ≡ q.ring.size = ap (λ (r : Ring). r.size) e in
    let r1 = b.own.returned in
    let r2 = b.own.taken in
    let r3 = p.tied.avail in
    let r4 = a.own.published in
    let r5 = a.own.room in
    let r6 = p.tied.room in (
      subst (λ (r : Ring). get_elem? words r.base ≡ some (count_word r s.published)) e a.written,
      record { word = λ i. count_word q.ring s.published; above = omega arith; near = omega arith },
    )

-- and what the receiver finds there is that count
pub written_count_is : (words : List ℕ) (s : Sending) (t : Option Receiving) (q : Receiving) (u : Option Sending) (x n : ℕ) → IsSending words s → IsReceiving words q → ArePaired words s t q u
    → get_elem? words q.ring.base ≡ some x → IsWrittenCount q x n → n ≡ s.published
written_count_is words s t q u x n a b p found count =
    let there = written_count words s t q u a b p in
    let w : x ≡ count_word q.ring s.published = some-injective x (count_word q.ring s.published) (sym found ∙ there.0) in
    same_above q.ring.start n s.published q.returned q.ring.size (few_cells q.ring b.own.ring) count.above count.near there.1.above there.1.near (sym count.word ∙ w)
