-- What the pool owns when an object goes out or comes back, and when a superblock is added or given back.
use Rattle.std.proofs.Common.{◌≡◌, ◌≢◌, ℕ, ◌+◌, ◌<◌, ◌≤◌, ◌⊎◌, inl, inr, ⊎_elim, Bool, true, false, not, ◌&&◌, ◌||◌, refl, sym, ap, subst, ◌∙◌, arith}
use mathlib.Core.Logic.{dite}
use native.Mathlib.Decide.{ℕ_discrete}
use Rattle.std.proofs.lemmas.Bool.{cases_lt, false_from_ne_true}
use Rattle.word_map.specs.WordMap.{is_within}
use Rattle.word_map.proofs.Maps.{within_is}
use Rattle.span_pools.specs.declared.layout.Layout.{Layout}
use Rattle.span_pools.specs.Places.{place, record_at, covers, object_of, IsLayout}
use Rattle.span_pools.specs.Shape.{IsShape, IsRecords}
use Rattle.span_pools.proofs.Covers.{bool_same, in_object, of_object, place_in, place_covers, place_object, no_common, parted}

-- a word is in an object where the first word of its own object is
object_whole : (l : Layout) (p i q k : ℕ) → IsLayout l → i < l.objects → ((q ≡ p) ⊎ ((p + 16 ≤ q) ⊎ (q + 16 ≤ p))) → covers l q k ≡ true → object_of l q k < l.objects
    → is_within (place l p i) l.size k ≡ is_within (place l p i) l.size (place l q (object_of l q k))
object_whole l p i q k a low h c few = ⊎_elim
    (λ (e : q ≡ p). subst (λ (z : ℕ). covers l z k ≡ true → object_of l z k < l.objects → is_within (place l p i) l.size k ≡ is_within (place l p i) l.size (place l z (object_of l z k))) (sym e)
    (λ c2 few2. bool_same (is_within (place l p i) l.size k) (is_within (place l p i) l.size (place l p (object_of l p k)))
    (λ x. subst (λ (z : ℕ). is_within (place l p i) l.size (place l p z) ≡ true) (sym (in_object l p i k a low x).1) (place_in l p i a low))
    (λ x. of_object l p i k a c2 (sym (place_object l p (object_of l p k) a few2) ∙ (in_object l p i (place l p (object_of l p k)) a low x).1)))
    c few)
    (λ (m : (p + 16 ≤ q) ⊎ (q + 16 ≤ p)).
    false_from_ne_true (is_within (place l p i) l.size k) (λ x. no_common l p q k m (in_object l p i k a low x).0 c)
    ∙ sym (false_from_ne_true (is_within (place l p i) l.size (place l q (object_of l q k))) (λ x. no_common l p q (place l q (object_of l q k)) m (in_object l p i (place l q (object_of l q k)) a low x).0 (place_covers l q (object_of l q k) a few))))
    h

-- no word behind the last object of a superblock is in an object
tail_none : (l : Layout) (p i q k : ℕ) → IsLayout l → i < l.objects → ((q ≡ p) ⊎ ((p + 16 ≤ q) ⊎ (q + 16 ≤ p))) → covers l q k ≡ true → l.objects ≤ object_of l q k → is_within (place l p i) l.size k ≡ false
tail_none l p i q k a low h c many = false_from_ne_true (is_within (place l p i) l.size k) (λ x.
    let y = in_object l p i k a low x in
    ⊎_elim (λ (e : q ≡ p). let z : object_of l q k ≡ i = ap (λ (w : ℕ). object_of l w k) e ∙ y.1 in omega arith) (λ (m : (p + 16 ≤ q) ⊎ (q + 16 ≤ p)). no_common l p q k m y.0 c) h)

same_or_parted : (l : Layout) (marked own : ℕ → Bool) (p q : ℕ) → IsShape l marked own → marked p ≡ true → marked q ≡ true → (q ≡ p) ⊎ ((p + 16 ≤ q) ⊎ (q + 16 ≤ p))
same_or_parted l marked own p q s a b = dite (ℕ_discrete q p) (λ (e : q ≡ p). inl e) (λ (n : q ≢ p). inr (parted l marked own p q s a b (λ e. n (sym e))))

and_left : (a b : Bool) → (a && b) ≡ true → a ≡ true
and_left true b e = refl
and_left false b e = cc

or_split : (a b : Bool) → (a || b) ≡ true → (a ≡ true) ⊎ (b ≡ true)
or_split true b e = inl refl
or_split false b e = inr e

or_true : (a b : Bool) → a ≡ true → (a || b) ≡ true
or_true a b e = ap (λ (x : Bool). x || b) e

and_not : (a b : Bool) → a ≡ true → b ≡ false → (a && not b) ≡ true
and_not a b e f = ap (λ (x : Bool). x && not b) e ∙ ap not f

-- an object goes out
pub shape_less : (l : Layout) (marked own after : ℕ → Bool) (p i : ℕ) → IsLayout l → IsShape l marked own → marked p ≡ true → i < l.objects
    → ((k : ℕ) → after k ≡ (own k && not (is_within (place l p i) l.size k))) → IsShape l marked after
shape_less l marked own after p i a s m low e = record {
  inside = s.inside;
  apart = s.apart;
  within = λ k h. s.within k (and_left (own k) (not (is_within (place l p i) l.size k)) (sym (e k) ∙ h));
  objects = λ q k mq c few.
      e k ∙ ap (λ (b : Bool). b && not (is_within (place l p i) l.size k)) (s.objects q k mq c few)
      ∙ ap (λ (b : Bool). own (place l q (object_of l q k)) && not b) (object_whole l p i q k a low (same_or_parted l marked own p q s m mq) c few) ∙ sym (e (place l q (object_of l q k)));
  tail = λ q k mq c many. e k ∙ and_not (own k) (is_within (place l p i) l.size k) (s.tail q k mq c many) (tail_none l p i q k a low (same_or_parted l marked own p q s m mq) c many);
}

-- an object comes back
pub shape_more : (l : Layout) (marked own after : ℕ → Bool) (p i : ℕ) → IsLayout l → IsShape l marked own → marked p ≡ true → i < l.objects
    → ((k : ℕ) → after k ≡ (own k || is_within (place l p i) l.size k)) → IsShape l marked after
shape_more l marked own after p i a s m low e = record {
  inside = s.inside;
  apart = s.apart;
  within = λ k h. ⊎_elim
      (λ (x : own k ≡ true). s.within k x)
      (λ (x : is_within (place l p i) l.size k ≡ true). (p, m, (in_object l p i k a low x).0))
      (or_split (own k) (is_within (place l p i) l.size k) (sym (e k) ∙ h));
  objects = λ q k mq c few.
      e k ∙ ap (λ (b : Bool). b || is_within (place l p i) l.size k) (s.objects q k mq c few)
      ∙ ap (λ (b : Bool). own (place l q (object_of l q k)) || b) (object_whole l p i q k a low (same_or_parted l marked own p q s m mq) c few) ∙ sym (e (place l q (object_of l q k)));
  tail = λ q k mq c many. e k ∙ or_true (own k) (is_within (place l p i) l.size k) (s.tail q k mq c many);
}

-- a superblock whose first object is live comes in
pub shape_added : (l : Layout) (marked after_marked own after : ℕ → Bool) (p : ℕ) → IsLayout l → IsShape l marked own → p + 16 ≤ l.pages → ((q : ℕ) → marked q ≡ true → (p + 16 ≤ q) ⊎ (q + 16 ≤ p))
    → after_marked p ≡ true → ((q : ℕ) → q ≢ p → after_marked q ≡ marked q)
    → ((k : ℕ) → after k ≡ (own k || (covers l p k && not (is_within (place l p 0) l.size k)))) → IsShape l after_marked after
shape_added l marked after_marked own after p a s fits apart here same e = record {
  inside = λ q m. dite (ℕ_discrete q p) (λ (x : q ≡ p). let z = fits in omega arith) (λ (n : q ≢ p). s.inside q (sym (same q n) ∙ m));
  apart = λ q r mq mr h. dite (ℕ_discrete q p)
      (λ (x : q ≡ p). ⊎_elim (λ (y : p + 16 ≤ r). let z : q + 16 ≤ r = omega arith in z) (λ (y : r + 16 ≤ p). absurd (omega arith)) (apart r (sym (same r (λ w. omega arith)) ∙ mr)))
      (λ (n : q ≢ p). dite (ℕ_discrete r p)
      (λ (x : r ≡ p). ⊎_elim (λ (y : p + 16 ≤ q). absurd (omega arith)) (λ (y : q + 16 ≤ p). let z : q + 16 ≤ r = omega arith in z) (apart q (sym (same q n) ∙ mq)))
      (λ (n2 : r ≢ p). s.apart q r (sym (same q n) ∙ mq) (sym (same r n2) ∙ mr) h));
  within = λ k h. ⊎_elim
      (λ (x : own k ≡ true). let w = s.within k x in (w.0, same w.0 (unlike w.0 w.1) ∙ w.1, w.2))
      (λ (x : (covers l p k && not (is_within (place l p 0) l.size k)) ≡ true). (p, here, and_left (covers l p k) (not (is_within (place l p 0) l.size k)) x))
      (or_split (own k) (covers l p k && not (is_within (place l p 0) l.size k)) (sym (e k) ∙ h));
  objects = λ q k mq c few. dite (ℕ_discrete q p)
      (λ (x : q ≡ p). subst (λ (z : ℕ). covers l z k ≡ true → object_of l z k < l.objects → after k ≡ after (place l z (object_of l z k))) (sym x)
      (λ c2 few2. in_new k c2 ∙ ap not (object_whole l p 0 p k a some (inl refl) c2 few2) ∙ sym (in_new (place l p (object_of l p k)) (place_covers l p (object_of l p k) a few2)))
      c few)
      (λ (n : q ≢ p). let mo = sym (same q n) ∙ mq in outside q k mo c ∙ s.objects q k mo c few ∙ sym (outside q (place l q (object_of l q k)) mo (place_covers l q (object_of l q k) a few)));
  tail = λ q k mq c many. dite (ℕ_discrete q p)
      (λ (x : q ≡ p). subst (λ (z : ℕ). covers l z k ≡ true → l.objects ≤ object_of l z k → after k ≡ true) (sym x) (λ c2 many2. in_new k c2 ∙ ap not (tail_none l p 0 p k a some (inl refl) c2 many2)) c many)
      (λ (n : q ≢ p). let mo = sym (same q n) ∙ mq in outside q k mo c ∙ s.tail q k mo c many);
}
  where
    some : 0 < l.objects
    some = let z = a.some in omega arith

    unlike : (q : ℕ) → marked q ≡ true → q ≢ p
    unlike q m x = ⊎_elim (λ (y : p + 16 ≤ q). omega arith) (λ (y : q + 16 ≤ p). omega arith) (apart q m)

    not_own : (k : ℕ) → covers l p k ≡ true → own k ≡ false
    not_own k c = false_from_ne_true (own k) (λ x. let w = s.within k x in no_common l p w.0 k (apart w.0 w.1) c w.2)

    in_new : (k : ℕ) → covers l p k ≡ true → after k ≡ not (is_within (place l p 0) l.size k)
    in_new k c = e k ∙ ap (λ (b : Bool). b || (covers l p k && not (is_within (place l p 0) l.size k))) (not_own k c) ∙ ap (λ (b : Bool). b && not (is_within (place l p 0) l.size k)) c

    outside : (q k : ℕ) → marked q ≡ true → covers l q k ≡ true → after k ≡ own k
    outside q k m c =
        e k ∙ ap (λ (b : Bool). own k || (b && not (is_within (place l p 0) l.size k))) (false_from_ne_true (covers l p k) (λ x. no_common l p q k (apart q m) x c)) ∙ or_false (own k)
      where
        or_false : (b : Bool) → (b || false) ≡ b
        or_false true = refl
        or_false false = refl

-- a superblock goes out whole
pub shape_given : (l : Layout) (marked after_marked own after : ℕ → Bool) (p : ℕ) → IsLayout l → IsShape l marked own → marked p ≡ true
    → after_marked p ≡ false → ((q : ℕ) → q ≢ p → after_marked q ≡ marked q)
    → ((k : ℕ) → after k ≡ (own k && not (covers l p k))) → IsShape l after_marked after
shape_given l marked after_marked own after p a s m gone same e = record {
  inside = λ q mq. s.inside q (old q mq);
  apart = λ q r mq mr h. s.apart q r (old q mq) (old r mr) h;
  within = λ k h.
      let w = s.within k (and_left (own k) (not (covers l p k)) (sym (e k) ∙ h)) in
      (w.0, same w.0 (λ x. no_both k h (subst (λ (z : ℕ). covers l z k ≡ true) x w.2)) ∙ w.1, w.2);
  objects = λ q k mq c few. outside q k mq c ∙ s.objects q k (old q mq) c few ∙ sym (outside q (place l q (object_of l q k)) mq (place_covers l q (object_of l q k) a few));
  tail = λ q k mq c many. outside q k mq c ∙ s.tail q k (old q mq) c many;
}
  where
    unlike : (q : ℕ) → after_marked q ≡ true → q ≢ p
    unlike q mq x = let z : true ≡ false = sym mq ∙ (ap after_marked x ∙ gone) in let y : ⊥ = cc in y

    old : (q : ℕ) → after_marked q ≡ true → marked q ≡ true
    old q mq = sym (same q (unlike q mq)) ∙ mq

    and_false : (b : Bool) → (b && not true) ≡ true → ⊥
    and_false true x = cc
    and_false false x = cc

    no_both : (k : ℕ) → after k ≡ true → covers l p k ≡ true → ⊥
    no_both k h c = and_false (own k) (sym (ap (λ (b : Bool). own k && not b) c) ∙ sym (e k) ∙ h)

    and_true : (b : Bool) → (b && not false) ≡ b
    and_true true = refl
    and_true false = refl

    outside : (q k : ℕ) → after_marked q ≡ true → covers l q k ≡ true → after k ≡ own k
    outside q k mq c = e k ∙ ap (λ (b : Bool). own k && not b) (false_from_ne_true (covers l p k) (λ x. no_common l p q k (parted l marked own p q s m (old q mq) (λ y. unlike q mq (sym y))) x c)) ∙ and_true (own k)

-- where each object is free, the pool owns each word of the superblock
pub shape_whole : (l : Layout) (marked own : ℕ → Bool) (p k : ℕ) → IsShape l marked own → marked p ≡ true → ((i : ℕ) → i < l.objects → own (place l p i) ≡ true) → covers l p k ≡ true → own k ≡ true
shape_whole l marked own p k s m free c = ⊎_elim
    (λ (h : object_of l p k < l.objects). s.objects p k m c h ∙ free (object_of l p k) h)
    (λ (h : l.objects ≤ object_of l p k). s.tail p k m c h)
    (cases_lt (object_of l p k) l.objects)

-- of a free object the pool owns each word
pub object_owned : (l : Layout) (marked own : ℕ → Bool) (p i k : ℕ) → IsLayout l → IsShape l marked own → marked p ≡ true → i < l.objects → own (place l p i) ≡ true → is_within (place l p i) l.size k ≡ true → own k ≡ true
object_owned l marked own p i k a s m low free h =
    let x = in_object l p i k a low h in
    s.objects p k m x.0 (subst (λ (z : ℕ). z < l.objects) (sym x.1) low) ∙ ap (λ (z : ℕ). own (place l p z)) x.1 ∙ free

pub records_added : (l : Layout) (marked after_marked own after : ℕ → Bool) (p : ℕ) → IsRecords l marked own → after_marked p ≡ true → ((q : ℕ) → q ≢ p → after_marked q ≡ marked q)
    → ((q : ℕ) → marked q ≡ true → q ≢ p) → ((k : ℕ) → after k ≡ (own k || is_within (record_at l p) 112 k)) → IsRecords l after_marked after
records_added l marked after_marked own after p s here same unlike e = record {
  within = λ k h. ⊎_elim
      (λ (x : own k ≡ true). let w = s.within k x in (w.0, same w.0 (unlike w.0 w.1) ∙ w.1, w.2))
      (λ (x : is_within (record_at l p) 112 k ≡ true). (p, here, x))
      (or_split (own k) (is_within (record_at l p) 112 k) (sym (e k) ∙ h));
  all = λ q k mq w. e k ∙ dite (ℕ_discrete q p)
      (λ (x : q ≡ p). or_right (own k) (is_within (record_at l p) 112 k) (subst (λ (z : ℕ). is_within (record_at l z) 112 k ≡ true) x w))
      (λ (n : q ≢ p). or_true (own k) (is_within (record_at l p) 112 k) (s.all q k (sym (same q n) ∙ mq) w));
}
  where
    or_right : (a b : Bool) → b ≡ true → (a || b) ≡ true
    or_right true b x = refl
    or_right false b x = x

pub records_given : (l : Layout) (marked after_marked own after : ℕ → Bool) (p : ℕ) → IsRecords l marked own → after_marked p ≡ false → ((q : ℕ) → q ≢ p → after_marked q ≡ marked q)
    → ((q : ℕ) → marked q ≡ true → q ≢ p → (p + 16 ≤ q) ⊎ (q + 16 ≤ p)) → ((k : ℕ) → after k ≡ (own k && not (is_within (record_at l p) 112 k))) → IsRecords l after_marked after
records_given l marked after_marked own after p s gone same apart e = record {
  within = λ k h.
      let w = s.within k (and_left (own k) (not (is_within (record_at l p) 112 k)) (sym (e k) ∙ h)) in
      (w.0, same w.0 (λ x. no_both k h (subst (λ (z : ℕ). is_within (record_at l z) 112 k ≡ true) x w.2)) ∙ w.1, w.2);
  all = λ q k mq w.
      let n : q ≢ p = λ x. (let z : true ≡ false = sym mq ∙ (ap after_marked x ∙ gone) in let y : ⊥ = cc in y) in
      let old = sym (same q n) ∙ mq in
      e k ∙ and_not (own k) (is_within (record_at l p) 112 k) (s.all q k old w) (false_from_ne_true (is_within (record_at l p) 112 k) (λ x. records_apart q k (apart q old n) x w));
}
  where
    and_false : (b : Bool) → (b && not true) ≡ true → ⊥
    and_false true x = cc
    and_false false x = cc

    no_both : (k : ℕ) → after k ≡ true → is_within (record_at l p) 112 k ≡ true → ⊥
    no_both k h c = and_false (own k) (sym (ap (λ (b : Bool). own k && not b) c) ∙ sym (e k) ∙ h)

    records_apart : (q k : ℕ) → ((p + 16 ≤ q) ⊎ (q + 16 ≤ p)) → is_within (record_at l p) 112 k ≡ true → is_within (record_at l q) 112 k ≡ true → ⊥
    records_apart q k h x y =
        let a = within_is (record_at l p) 112 k x in
        let b = within_is (record_at l q) 112 k y in
        ⊎_elim (λ (z : p + 16 ≤ q). omega (arith, a.1, b.0)) (λ (z : q + 16 ≤ p). omega (arith, a.0, b.1)) h
