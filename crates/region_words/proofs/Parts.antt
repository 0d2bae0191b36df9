-- What a part's calls ask and leave, over plain values.
use Rattle.std.proofs.Common.{◌≡◌, ◌≢◌, ℕ, zero, suc, ◌-◌, ◌<◌, ◌≤◌, List, [], ◌∷◌, Some, None, IsSome, IfSome, length, replicate, refl, sym, ap, subst, ◌∙◌, ⊎_elim, arith}
use mathlib.Core.Option.{some}
use lib.ListN.{get_elem?}
use Rattle.std.specs.FinMap as fin
use Rattle.atomic_table.specs.Table.{Allows, Splits, Joins}
use Rattle.atomic_table.specs.Seated.{TableId}
use Rattle.word_map.specs.WordMap.{WordMap, at, Has, Disjoint, range_of, rest_of, union, numbered}
use Rattle.region_rule.specs.View.{Own, Spent}
use Rattle.region_rule.specs.Places.{idle, copying, out_of, IsIdle, MayTake, Ruled}
use Rattle.region_rule.specs.Tells.{TellsApart, TellsLoad, TellsStore, rest_view, range_view, both_view}
use Rattle.word_map.proofs.Maps.{at-insert, range_inside, rest_inside, union_from, numbered_from}
use Rattle.word_map.proofs.Uses.{has_some}
use Rattle.region_rule.proofs.Allows.{begin_allows}
use Rattle.region_rule.proofs.OwnerSteps.{load_allowed, store_allowed, learn_allowed, split_allowed, join_allowed}
use Rattle.region_words.specs.Parts.{Owned, owned, own_map, IsBelow, IsPart, IsSized}
use Rattle.region_words.proofs.Seats.{Mine, idle_as}

-- a token that owns m
pub owner : (t : TableId) (me : Mine) (m : WordMap) → IsIdle me (Own m None) → IsBelow m t.words → IsSized t → IsPart t me
owner t me m e below more = record {
  owns = e ∙ ap (λ (n : WordMap). (idle (Own n None), [])) (sym (ap (λ (u : Mine). own_map u.0.view) e));
  below = subst (λ (n : WordMap). IsBelow n t.words) (sym (ap (λ (u : Mine). own_map u.0.view) e)) below;
  sized = more;
}

pub seen_as : (t u : TableId) (me : Mine) (m : WordMap) → IsIdle me (Own m None) → t ≡ u → owned t (own_map me.0.view) ≡ owned u m
seen_as t u me m e f = λ i. owned (f i) (ap (λ (z : Mine). own_map z.0.view) e i)

pub same_table : (t y : TableId) (m : WordMap) (o : Owned) → owned t m ≡ o → o.region ≡ y → t ≡ y
same_table t y m o v here = ap (λ (q : Owned). q.region) v ∙ here

-- the part has the word
pub has_word : (t : TableId) (m : WordMap) (o : Owned) (k : ℕ) → owned t m ≡ o → IsSome (at o.words k) → Has m k
has_word t m o k v has = has_some m k (subst (λ (q : Owned). IsSome (at q.words k)) (sym v) has)

-- and it is one of the region
pub word_inside : (t y : TableId) (k : ℕ) (me : Mine) (o : Owned) → IsPart t me → owned t (own_map me.0.view) ≡ o → o.region ≡ y → IsSome (at o.words k) → k < y.words
word_inside t y k me o p v here has =
    let h = has_word t (own_map me.0.view) o k v has in subst (λ (q : TableId). k < q.words) (same_table t y (own_map me.0.view) o v here) (p.below k h.0 h.1)

-- the owner may take the slot
pub may_take : (t : TableId) (k : ℕ) (me : Mine) (o : Owned) → IsPart t me → owned t (own_map me.0.view) ≡ o → IsSome (at o.words k) → MayTake me.0.view k
may_take t k me o p v has = subst (λ (u : Mine). MayTake u.0.view k) (sym p.owns) (has_word t (own_map me.0.view) o k v has)

-- what the table asks of a load, a store, a cut and a join of a part
pub load_asks : (t y : TableId) (id k x : ℕ) (me : Mine) (o : Owned) → IsPart t me → owned t (own_map me.0.view) ≡ o → o.region ≡ y → IsSome (at o.words k)
    → Allows (Ruled y.words) y.slots id (out_of me.0 k x x) 0 (λ n. n) (λ n after. TellsLoad me.0.view k x after.0.view × IsIdle after after.0.view)
load_asks t y id k x me o p v here has =
    subst (λ (u : Mine). Allows (Ruled y.words) y.slots id (out_of u.0 k x x) 0 (λ n. n) (λ n after. TellsLoad u.0.view k x after.0.view × IsIdle after after.0.view)) (sym p.owns)
    (load_allowed y.words y.slots id 0 k x (own_map me.0.view) None (has_word t (own_map me.0.view) o k v has) (word_inside t y k me o p v here has)
    (subst (λ (q : TableId). q.slots ≡ q.words) (same_table t y (own_map me.0.view) o v here) p.sized.2))

pub store_asks : (t y : TableId) (id k x z : ℕ) (me : Mine) (o : Owned) → IsPart t me → owned t (own_map me.0.view) ≡ o → o.region ≡ y → IsSome (at o.words k) → z < 18446744073709551616
    → Allows (Ruled y.words) y.slots id (out_of me.0 k x z) 0 (λ n. n) (λ n after. TellsStore me.0.view k z after.0.view × IsIdle after after.0.view)
store_asks t y id k x z me o p v here has small =
    subst (λ (u : Mine). Allows (Ruled y.words) y.slots id (out_of u.0 k x z) 0 (λ n. n) (λ n after. TellsStore u.0.view k z after.0.view × IsIdle after after.0.view)) (sym p.owns)
    (store_allowed y.words y.slots id 0 k x z (own_map me.0.view) None (has_word t (own_map me.0.view) o k v has) small (word_inside t y k me o p v here has)
    (subst (λ (q : TableId). q.slots ≡ q.words) (same_table t y (own_map me.0.view) o v here) p.sized.2))

pub split_asks : (t : TableId) (count : ℕ) (id from len : ℕ) (me : Mine) → IsPart t me → Splits (Ruled count) id me.0 (idle (rest_view from len me.0.view)) (idle (range_view from len me.0.view))
split_asks t count id from len me p =
    subst (λ (u : Mine). Splits (Ruled count) id u.0 (idle (rest_view from len u.0.view)) (idle (range_view from len u.0.view))) (sym p.owns) (split_allowed count id from len (own_map me.0.view) None)

pub join_asks : (t u : TableId) (count : ℕ) (id other : ℕ) (me you : Mine) → IsPart t me → IsPart u you → Joins (Ruled count) id me.0 other you.0 (idle (both_view me.0.view you.0.view)) (idle Spent)
join_asks t u count id other me you p r =
    subst (λ (a : Mine). Joins (Ruled count) id a.0 other you.0 (idle (both_view a.0.view you.0.view)) (idle Spent)) (sym p.owns)
    (subst (λ (b : Mine). Joins (Ruled count) id (idle (Own (own_map me.0.view) None)) other b.0 (idle (both_view (Own (own_map me.0.view) None) b.0.view)) (idle Spent)) (sym r.owns)
    (join_allowed count id other (own_map me.0.view) (own_map you.0.view) None None))

-- what is left after a load
pub loaded : (t u : TableId) (k x : ℕ) (me after : Mine) → IsPart t me → u ≡ t → (n : ℕ) × (TellsLoad me.0.view k x after.0.view × IsIdle after after.0.view)
    → IsPart u after × (owned u (own_map after.0.view) ≡ owned t (own_map me.0.view)) × IfSome (at (own_map me.0.view) k) (λ y. y ≡ x)
loaded t u k x me after p e h =
    let a : TellsLoad (Own (own_map me.0.view) None) k x after.0.view = subst (λ (z : Mine). TellsLoad z.0.view k x after.0.view) p.owns h.1.0 in
    let is = idle_as after (Own (own_map me.0.view) None) h.1.1 a.2 in (
      owner u after (own_map me.0.view) is (subst (λ (q : TableId). IsBelow (own_map me.0.view) q.words) (sym e) p.below) (subst IsSized (sym e) p.sized),
      seen_as u t after (own_map me.0.view) is e,
      a.0,
    )

below_insert : (m : WordMap) (k x n : ℕ) → Has m k → IsBelow m n → IsBelow (fin.insert m k x) n
below_insert m k x n has b j y e = ⊎_elim
    (λ (p : (j ≡ k) × (x ≡ y)). subst (λ (q : ℕ). q < n) (sym p.0) (b k has.0 has.1))
    (λ (p : (j ≢ k) × (at m j ≡ Some y)). b j y p.1)
    (at-insert m k x j y e)

pub stored : (t u : TableId) (k z : ℕ) (me after : Mine) → IsPart t me → IsSome (at (own_map me.0.view) k) → u ≡ t → (n : ℕ) × (x : ℕ) × (TellsStore me.0.view k z after.0.view × IsIdle after after.0.view)
    → IsPart u after × (owned u (own_map after.0.view) ≡ owned t (fin.insert (own_map me.0.view) k z))
stored t u k z me after p has e h =
    let m = own_map me.0.view in
    let a : TellsStore (Own m None) k z after.0.view = subst (λ (w : Mine). TellsStore w.0.view k z after.0.view) p.owns h.2.0 in
    let is = idle_as after (Own (fin.insert m k z) None) h.2.1 a in
    let b = below_insert m k z t.words (has_some m k has) p.below in (
      owner u after (fin.insert m k z) is (subst (λ (q : TableId). IsBelow (fin.insert m k z) q.words) (sym e) b) (subst IsSized (sym e) p.sized),
      seen_as u t after (fin.insert m k z) is e,
    )

-- what is left after a split: the token that was cut, and the new one
pub rested : (t u : TableId) (from len : ℕ) (me after : Mine) → IsPart t me → u ≡ t → after ≡ (idle (rest_view from len me.0.view), me.1)
    → IsPart u after × (owned u (own_map after.0.view) ≡ owned t (rest_of (own_map me.0.view) from len))
rested t u from len me after p e h =
    let m = own_map me.0.view in
    let a : IsIdle after (Own (rest_of m from len) None) = subst (λ (z : Mine). after ≡ (idle (rest_view from len z.0.view), z.1)) p.owns h in
    let b : IsBelow (rest_of m from len) t.words = λ k x f. p.below k x (rest_inside m from len k x f).1 in (
      owner u after (rest_of m from len) a (subst (λ (q : TableId). IsBelow (rest_of m from len) q.words) (sym e) b) (subst IsSized (sym e) p.sized),
      seen_as u t after (rest_of m from len) a e,
    )

pub ranged : (t u : TableId) (from len : ℕ) (me new : Mine) → IsPart t me → u ≡ t → new ≡ (idle (range_view from len me.0.view), [])
    → IsPart u new × (owned u (own_map new.0.view) ≡ owned t (range_of (own_map me.0.view) from len))
ranged t u from len me new p e h =
    let m = own_map me.0.view in
    let a : IsIdle new (Own (range_of m from len) None) = subst (λ (z : Mine). new ≡ (idle (range_view from len z.0.view), [])) p.owns h in
    let b : IsBelow (range_of m from len) t.words = λ k x f. p.below k x (range_inside m from len k x f).1 in (
      owner u new (range_of m from len) a (subst (λ (q : TableId). IsBelow (range_of m from len) q.words) (sym e) b) (subst IsSized (sym e) p.sized),
      seen_as u t new (range_of m from len) a e,
    )

-- after a join, before the load that tells
pub glued : (me you after : Mine) (t u : TableId) → IsPart t me → IsPart u you → after ≡ (idle (both_view me.0.view you.0.view), me.1)
    → IsIdle after (Own (union (own_map me.0.view) (own_map you.0.view)) (Some (own_map me.0.view, own_map you.0.view)))
glued me you after t u p r h =
    subst (λ (b : Mine). after ≡ (idle (both_view (Own (own_map me.0.view) None) b.0.view), [])) r.owns (subst (λ (a : Mine). after ≡ (idle (both_view a.0.view you.0.view), a.1)) p.owns h)

pub join_load_asks : (t y : TableId) (id : ℕ) (me you after : Mine) (u : TableId) → t ≡ y → IsPart t me → IsPart u you → after ≡ (idle (both_view me.0.view you.0.view), me.1)
    → (0 < y.words) × Allows (Ruled y.words) y.slots id after 0 (λ n. n) (λ n last. TellsApart after.0.view last.0.view × IsIdle last last.0.view)
join_load_asks t y id me you after u same p r h =
    let some_words : 0 < y.words = subst (λ (x : TableId). 0 < x.words) same p.sized.0 in (
      some_words,
      subst (λ (a : Mine). Allows (Ruled y.words) y.slots id a 0 (λ n. n) (λ n last. TellsApart a.0.view last.0.view × IsIdle last last.0.view)) (sym (glued me you after t u p r h))
          (learn_allowed y.words y.slots id 0 (union (own_map me.0.view) (own_map you.0.view)) (Some (own_map me.0.view, own_map you.0.view)) some_words),
    )

pub joined : (t u w : TableId) (me you after last : Mine) → IsPart t me → IsPart u you → u ≡ t → w ≡ t → after ≡ (idle (both_view me.0.view you.0.view), me.1) → TellsApart after.0.view last.0.view × IsIdle last last.0.view
    → IsPart w last × (owned w (own_map last.0.view) ≡ owned t (union (own_map me.0.view) (own_map you.0.view))) × Disjoint (own_map me.0.view) (own_map you.0.view)
joined t u w me you after last p r ut e h g =
    let m = own_map me.0.view in
    let q = own_map you.0.view in
    let is = glued me you after t u p r h in
    let a : TellsApart (Own (union m q) (Some (m, q))) last.0.view = subst (λ (x : Mine). TellsApart x.0.view last.0.view) is g.0 in
    let own = idle_as last (Own (union m q) None) g.1 a.1 in
    let b : IsBelow (union m q) t.words = λ k x s. ⊎_elim (λ (w : at q k ≡ Some x). subst (λ (y : TableId). k < y.words) ut (r.below k x w)) (λ (w : at m k ≡ Some x). p.below k x w) (union_from m q k x s) in (
      owner w last (union m q) own (subst (λ (y : TableId). IsBelow (union m q) y.words) (sym e) b) (subst IsSized (sym e) p.sized),
      seen_as w t last (union m q) own e,
      a.0,
    )

has_length : {A : Type 0} (l : List A) (k : ℕ) (a : A) → get_elem? l k ≡ some a → k < length l
has_length [] k a e = cc
has_length (x ∷ xs) zero a e = omega arith
has_length (x ∷ xs) (suc k) a e = omega (arith, has_length xs k a e)

pub has_here : (t : TableId) (m : WordMap) (o : Owned) (k : ℕ) → owned t m ≡ o → IsSome (at o.words k) → IsSome (at m k)
has_here t m o k v has = subst (λ (q : Owned). IsSome (at q.words k)) (sym v) has

pub length-zeros : (n : ℕ) → length {A = ℕ} (replicate n 0) ≡ n
length-zeros zero = refl
length-zeros (suc n) = ap suc (length-zeros n)

-- the first part, of all words
pub begun : (t : TableId) (count : ℕ) (me : Mine) → IsIdle me (Own (numbered 0 (replicate count 0)) None) → t.words ≡ count → t.slots ≡ count → 0 < count → count ≤ 67108864 → IsPart t me
begun t count me e n slots more few = owner t me (numbered 0 (replicate count 0)) e
    (λ k x f. let p = numbered_from (replicate count 0) 0 k x f in let l = has_length (replicate count 0) (k - 0) x p.1 in let z = length-zeros count in omega (arith, l, n, z)) (omega arith, omega arith, slots ∙ sym n)

-- A PART COPIES ITS WORDS
pub begin_asks : (t : TableId) (count slots id from : ℕ) (me : Mine) → IsPart t me
    → Allows (Ruled count) slots id me 0 (λ n. n) (λ n after. after ≡ (copying me.0.view from 0, []))
begin_asks t count slots id from me p =
    subst (λ (u : Mine). Allows (Ruled count) slots id u 0 (λ n. n) (λ n after. after ≡ (copying u.0.view from 0, []))) (sym p.owns) (begin_allows count slots id 0 from (Own (own_map me.0.view) None))
