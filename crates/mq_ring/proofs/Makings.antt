-- The words of a ring that is made of a chunk, and of one that comes home.
use Rattle.std.proofs.Common.{◌≡◌, ℕ, zero, suc, ◌+◌, ◌-◌, ◌*◌, ◌/◌, ◌<◌, ◌≤◌, Bool, true, false, ◌||◌, cond, [], ◌∷◌, length, Option, Some, None, IsSome, is_some, unwrap_or, refl, sym, ap, subst, ◌∙◌, arith}
use Rattle.std.proofs.lemmas.Bool.Decides.{nat_tests}
use Rattle.std.specs.FinMap as fin
use Rattle.atomic_table.specs.Table.{Splits}
use Rattle.atomic_table.specs.Seated.{TableId}
use Rattle.word_map.specs.WordMap.{WordMap, at, HasJust, is_within, range_of, rest_of, union, values_from}
use Rattle.word_map.proofs.Maps.{at-insert_same, at-insert_other, at-range_in, at-rest_cond, at-union_cond, within_true, within_is, same_answers, just_has, insert-just, range-just, rest-just, numbered_from, numbered_at}
use Rattle.ring_rule.specs.Ring.{Ring, IsRing, Sending, Receiving, ring_words}
use Rattle.ring_rule.proofs.Stored.{in_list, has_at}
use Rattle.region_rule.specs.RingMap.{IsFresh, ring_map}
use Rattle.region_rule.specs.View.{Own}
use Rattle.region_rule.specs.Places.{idle, copying, Ruled}
use Rattle.region_words.proofs.Seats.{Mine}
use Rattle.region_rule.specs.Tells.{sender_view, receiver_view}
use Rattle.region_rule.proofs.RingSteps.{make_ring_allowed}
use Rattle.region_words.specs.Parts.{Owned, owned, IsBelow}
use Rattle.mq_ring.specs.Ends.{ring_of}

pub make_allows : (count id : ℕ) (me : Mine) (m : WordMap) (r : Ring) → me ≡ (copying (Own m None) r.base 3, []) → IsFresh m r → Splits (Ruled count) id me.0 (idle (sender_view r me.0.view)) (idle (receiver_view r me.0.view))
make_allows count id me m r e fresh = subst (λ (x : Mine). Splits (Ruled count) id x.0 (idle (sender_view r x.0.view)) (idle (receiver_view r x.0.view))) (sym e) (make_ring_allowed count id r m None fresh)

-- THE WORDS OF A NEW RING: the first of a chunk, with both counts and the flag stored
abbrev pub fresh_map : WordMap → ℕ → ℕ → ℕ → WordMap
fresh_map m b w f = fin.insert (fin.insert (fin.insert (range_of m b (w + 3)) b f) (b + 1) f) (b + 2) 0

pub first_row : (m : WordMap) (from len b w : ℕ) → HasJust m from len → b ≡ from → w + 3 ≤ len → HasJust (range_of m b (w + 3)) b (w + 3)
first_row m from len b w just e few = range-just m from len b (w + 3) just (omega arith) (omega arith)

pub three_stores : (p0 p1 p2 p3 : Owned) (g : TableId) (m : WordMap) (b w f : ℕ) → p0 ≡ owned g (range_of m b (w + 3)) → p1 ≡ owned p0.region (fin.insert p0.words b f) → p2 ≡ owned p1.region (fin.insert p1.words (b + 1) f)
    → p3 ≡ owned p2.region (fin.insert p2.words (b + 2) 0) → p3 ≡ owned g (fresh_map m b w f)
three_stores p0 p1 p2 p3 g m b w f e0 e1 e2 e3 =
    let s1 : p1 ≡ owned g (fin.insert (range_of m b (w + 3)) b f) = e1 ∙ ap (λ (o : Owned). owned o.region (fin.insert o.words b f)) e0 in
    let s2 : p2 ≡ owned g (fin.insert (fin.insert (range_of m b (w + 3)) b f) (b + 1) f) = e2 ∙ ap (λ (o : Owned). owned o.region (fin.insert o.words (b + 1) f)) s1 in
    e3 ∙ ap (λ (o : Owned). owned o.region (fin.insert o.words (b + 2) 0)) s2

pub fresh_just : (m : WordMap) (b w f : ℕ) → HasJust (range_of m b (w + 3)) b (w + 3) → HasJust (fresh_map m b w f) b (w + 3)
fresh_just m b w f j0 =
    let m0 = range_of m b (w + 3) in
    let m1 = fin.insert m0 b f in
    let m2 = fin.insert m1 (b + 1) f in
    let j1 : HasJust m1 b (w + 3) = insert-just m0 b f b (w + 3) (just_has m0 b (w + 3) b j0 (omega arith) (omega arith)) j0 in
    let j2 : HasJust m2 b (w + 3) = insert-just m1 (b + 1) f b (w + 3) (just_has m1 b (w + 3) (b + 1) j1 (omega arith) (omega arith)) j1 in
    insert-just m2 (b + 2) 0 b (w + 3) (just_has m2 b (w + 3) (b + 2) j2 (omega arith) (omega arith)) j2

pub fresh_ring : (m : WordMap) (b w f max : ℕ) → HasJust (range_of m b (w + 3)) b (w + 3) → IsRing (ring_of b w f max) → IsFresh (fresh_map m b w f) (ring_of b w f max)
fresh_ring m b w f max j0 ring =
    let m0 = range_of m b (w + 3) in
    let m1 = fin.insert m0 b f in
    let m2 = fin.insert m1 (b + 1) f in
    let small : f < 18446744073709551616 = ring.start in
    record {
      ring = ring;
      just = fresh_just m b w f j0;
      written = at-insert_other m2 (b + 2) 0 b (λ e. omega arith) ∙ (at-insert_other m1 (b + 1) f b (λ e. omega arith) ∙ at-insert_same m0 b f b refl) ∙ ap Some (omega arith);
      read = at-insert_other m2 (b + 2) 0 (b + 1) (λ e. omega arith) ∙ at-insert_same m1 (b + 1) f (b + 1) refl ∙ ap Some (omega arith);
      flag = at-insert_same m2 (b + 2) 0 (b + 2) refl;
    }

-- the cells keep what they held
cell_kept : (m : WordMap) (b w f k : ℕ) → b + 3 ≤ k → k < b + 3 + w → at (fresh_map m b w f) k ≡ at m k
cell_kept m b w f k low high =
    let m0 = range_of m b (w + 3) in
    let m1 = fin.insert m0 b f in
    let m2 = fin.insert m1 (b + 1) f in
    at-insert_other m2 (b + 2) 0 k (λ e. omega arith) ∙ at-insert_other m1 (b + 1) f k (λ e. omega arith) ∙ at-insert_other m0 b f k (λ e. omega arith)
    ∙ at-range_in m b (w + 3) k (within_true b (w + 3) k (omega arith) (omega arith))

pub cells_kept : (m : WordMap) (b w f k n : ℕ) → b + 3 ≤ k → k + n ≤ b + 3 + w → values_from (fresh_map m b w f) k n ≡ values_from m k n
cells_kept m b w f k zero low high = refl
cells_kept m b w f k (suc n) low high =
    let here = cell_kept m b w f k low (omega arith) in
    let rest = cells_kept m b w f (suc k) n (omega arith) (omega arith) in
    λ i. unwrap_or (here i) 0 ∷ rest i

pub rest_nothing : (m : WordMap) (b : ℕ) → rest_of m b 0 ≡ m
rest_nothing m b = same_answers (rest_of m b 0) m (λ k. at-rest_cond m b 0 k ∙ ap (λ c. cond c None (at m k)) (none k))
  where
    none : (k : ℕ) → is_within b 0 k ≡ false
    none k = grind (arith, nat_tests)

pub rest_row : (p q : Owned) (m : WordMap) (g : TableId) (from len b w : ℕ) → HasJust m from len → b ≡ from → w + 3 ≤ len → q ≡ owned g (rest_of m b (w + 3)) → p ≡ owned q.region (rest_of q.words b 0)
    → HasJust p.words (b + (w + 3)) (len - (w + 3))
rest_row p q m g from len b w just e few a c =
    let words : p.words ≡ rest_of m b (w + 3) = ap (λ (o : Owned). o.words) c ∙ rest_nothing q.words b ∙ ap (λ (o : Owned). o.words) a in
    subst (λ (n : WordMap). HasJust n (b + (w + 3)) (len - (w + 3))) (sym words) (rest-just m b len (w + 3) (subst (λ (x : ℕ). HasJust m x len) (sym e) just) few)

-- the last word of the ring is one of the region
pub inside_of : (m : WordMap) (b w count : ℕ) → HasJust m b (w + 3) → IsBelow m count → b + 3 + w ≤ count
inside_of m b w count just below =
    let k : ℕ = b + w + 2 in
    let has = just_has m b (w + 3) k just (omega arith) (omega arith) in
    let h : (x : ℕ) × (at m k ≡ Some x) = some_value (at m k) has in
    let l = below k h.0 h.1 in omega arith
  where
    some_value : (o : Option ℕ) → IsSome o → (x : ℕ) × (o ≡ Some x)
    some_value (Some x) s = (x, refl)
    some_value None s = cc

-- THE WORDS OF A RING THAT COMES HOME
ring_just : (s : Sending) (q : Receiving) → length s.cells ≡ s.ring.size → HasJust (ring_map s q) s.ring.base (s.ring.size + 3)
ring_just s q counted k = go (at (ring_map s q) k) refl
  where
    outside : (b : Bool) → is_within s.ring.base (s.ring.size + 3) k ≡ b → at (ring_map s q) k ≡ None → false ≡ b
    outside false e n = refl
    outside true e n =
        let p = within_is s.ring.base (s.ring.size + 3) k e in
        let low = p.0 in
        let high = p.1 in
        let y = has_at (ring_words s q) (k - s.ring.base) (omega arith) in
        let there = numbered_at (ring_words s q) s.ring.base (k - s.ring.base) y.0 k (omega arith) y.1 in
        cc

    go : (o : Option ℕ) → at (ring_map s q) k ≡ o → is_some o ≡ is_within s.ring.base (s.ring.size + 3) k
    go (Some x) e =
        let p = numbered_from (ring_words s q) s.ring.base k x e in
        let low = p.0 in
        let b = in_list (ring_words s q) (k - s.ring.base) x p.1 in
        sym (within_true s.ring.base (s.ring.size + 3) k (omega arith) (omega arith))
    go None e = outside (is_within s.ring.base (s.ring.size + 3) k) refl e

pub ring_below : (s : Sending) (q : Receiving) (count : ℕ) → length s.cells ≡ s.ring.size → s.ring.base + 3 + s.ring.size ≤ count → IsBelow (ring_map s q) count
ring_below s q count counted inside k x e =
    let p = numbered_from (ring_words s q) s.ring.base k x e in
    let low = p.0 in
    let b = in_list (ring_words s q) (k - s.ring.base) x p.1 in
    omega arith

both_rows : (a b within : Bool) (o p : Option ℕ) → is_some o ≡ a → is_some p ≡ b → within ≡ (a || b) → is_some (cond (is_some p) p o) ≡ within
both_rows a b within o (Some x) e f g = sym (g ∙ ap (λ c. a || c) (sym f) ∙ or_true a)
  where
    or_true : (c : Bool) → (c || true) ≡ true
    or_true true = refl
    or_true false = refl
both_rows a b within o None e f g = e ∙ sym (g ∙ ap (λ c. a || c) (sym f) ∙ or_false a)
  where
    or_false : (c : Bool) → (c || false) ≡ c
    or_false true = refl
    or_false false = refl

-- two rows of words, one behind the other
union_just : (m n : WordMap) (from len more : ℕ) → HasJust m from len → HasJust n (from + len) more → HasJust (union m n) from (len + more)
union_just m n from len more a b k =
    ap is_some (at-union_cond m n k)
    ∙ both_rows (is_within from len k) (is_within (from + len) more k) (is_within from (len + more) k) (at m k) (at n k) (a k) (b k) rows
  where
    rows : is_within from (len + more) k ≡ (is_within from len k || is_within (from + len) more k)
    rows = grind (arith, nat_tests)

pub chunk_just : (p : Owned) (g : TableId) (s : Sending) (q : Receiving) (rest : WordMap) (at_ base size bytes : ℕ) → length s.cells ≡ s.ring.size → base ≡ s.ring.base → size ≡ s.ring.size → at_ ≡ base
    → 8 * (size + 3) ≤ bytes → HasJust rest (base + (size + 3)) (bytes / 8 - (size + 3)) → p ≡ owned g (union (ring_map s q) rest) → HasJust p.words at_ (bytes / 8)
chunk_just p g s q rest at_ base size bytes counted b z here room behind is =
    let ring : HasJust (ring_map s q) base (size + 3) = subst (λ (x : ℕ). HasJust (ring_map s q) x (size + 3)) (sym b) (subst (λ (x : ℕ). HasJust (ring_map s q) s.ring.base (x + 3)) (sym z) (ring_just s q counted)) in
    let both = union_just (ring_map s q) rest base (size + 3) (bytes / 8 - (size + 3)) ring behind in
    let len : (size + 3) + (bytes / 8 - (size + 3)) ≡ bytes / 8 = omega arith in
    subst (λ (o : Owned). HasJust o.words at_ (bytes / 8)) (sym is)
    (subst (λ (x : ℕ). HasJust (union (ring_map s q) rest) x (bytes / 8)) (sym here) (subst (λ (x : ℕ). HasJust (union (ring_map s q) rest) base x) len both))
