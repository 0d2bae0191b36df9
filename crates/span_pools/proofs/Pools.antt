-- What a pool is after an object went out.
use Rattle.std.proofs.Common.{◌≡◌, ◌≢◌, ℕ, ◌+◌, ◌*◌, ◌/◌, ◌%◌, ◌<◌, ◌≤◌, ◌⊎◌, inl, inr, ⊎_elim, Bool, true, false, not, ◌&&◌, cond, Option, Some, None, is_some, IsSome, refl, sym, ap, subst, ◌∙◌, arith}
use mathlib.Core.Logic.{dite}
use native.Mathlib.Decide.{ℕ_discrete}
use Rattle.std.proofs.lemmas.Bool.{cases_lt, false_from_ne_true}
use Rattle.word_map.specs.WordMap.{WordMap, at, HasJust, is_within, rest_of}
use Rattle.word_map.proofs.Maps.{at-rest_cond, at-rest_in, at-rest_out, within_true}
use Rattle.free_pages.proofs.AreaWords.{cut_just}
use Rattle.region_words.specs.Parts.{Owned}
use Rattle.span_pools.specs.declared.layout.Layout.{Layout}
use Rattle.span_pools.specs.Places.{place, record_at, IsLayout}
use Rattle.span_pools.specs.Shape.{IsShape, IsRecords}
use Rattle.span_pools.specs.Legal.{object_in, AllLive, HasFree, IsSettled, IsAlloc}
use Rattle.span_pools.specs.View.{mark_of, owns, first_word, live_of, state_of, IsRecordOf, HasRoom, IsTakenOut, IsPool}
use Rattle.span_pools.proofs.FreeLists.{listed_same, each_live, has_free}
use Rattle.span_pools.proofs.Covers.{place_in, place_positive, place_covers, no_common, in_object, other_object, parted}
use Rattle.span_pools.proofs.Shapes.{shape_less, object_owned}
use Rattle.span_pools.proofs.Views.{seen_there, seen_past, seen_none, of_seen, spans_apart, flags_length}

pub no_bool : (b : Bool) → b ≡ true → b ≡ false → ⊥
no_bool true e f = cc
no_bool false e f = cc

-- a record of which no word changed
pub book_same : (l : Layout) (p : ℕ) (records words records2 words2 : WordMap) → ((k : ℕ) → record_at l p ≤ k → k < record_at l p + 3 → at records2 k ≡ at records k)
    → ((i : ℕ) → i < l.objects → at words2 (place l p i) ≡ at words (place l p i)) → IsRecordOf l records words p → IsRecordOf l records2 words2 p
book_same l p records words records2 words2 same_records same b = record {
  room = b.room;
  head = b.head;
  used = b.used;
  room_is = same_records (record_at l p) (omega arith) (omega arith) ∙ b.room_is;
  head_is = same_records (record_at l p + 1) (omega arith) (omega arith) ∙ b.head_is;
  used_is = same_records (record_at l p + 2) (omega arith) (omega arith) ∙ b.used_is;
  lists = listed_same l.objects (place l p) (first_word l words p) (first_word l words2 p) b.room b.head b.used same b.lists;
}

pub records_same : (l : Layout) (marked own after : ℕ → Bool) → ((k : ℕ) → after k ≡ own k) → IsRecords l marked own → IsRecords l marked after
records_same l marked own after same r = record {
  within = λ k h. r.within k (sym (same k) ∙ h);
  all = λ p k m w. same k ∙ r.all p k m w;
}

-- a free object means room, and no room means that each object is live
pub free_room : (l : Layout) (p i : ℕ) (records words : WordMap) → IsRecordOf l records words p → i < l.objects → owns words (place l p i) ≡ true → HasRoom l records p
free_room l p i records words b low free = ⊎_elim
    (λ (h : 0 < b.room). (b.room, b.room_is, h))
    (λ (h : b.room ≤ 0). absurd (no_bool (owns words (place l p i)) free (each_live l.objects (place l p) (first_word l words p) b.room b.head b.used i b.lists (omega arith) low)))
    (cases_lt 0 b.room)

pub no_room : (l : Layout) (p i : ℕ) (records words : WordMap) → IsRecordOf l records words p → (HasRoom l records p → ⊥) → i < l.objects → owns words (place l p i) ≡ false
no_room l p i records words b none low = false_from_ne_true (owns words (place l p i)) (λ h. none (free_room l p i records words b low h))

-- what is said of an object stays where its superblock's bit stays, and whether its words are there
pub seen_same : (l : Layout) (active active2 : Option ℕ) (marks marks2 words words2 : WordMap) (p i : ℕ) → (mark_of l marks p ≡ true → p + 16 ≤ l.pages) → mark_of l marks2 p ≡ mark_of l marks p
    → (mark_of l marks p ≡ true → i < l.objects → owns words2 (place l p i) ≡ owns words (place l p i)) → object_in (state_of l active2 marks2 words2) p i ≡ object_in (state_of l active marks words) p i
seen_same l active active2 marks marks2 words words2 p i inside same own = go (mark_of l marks p) refl
  where
    go : (b : Bool) → mark_of l marks p ≡ b → object_in (state_of l active2 marks2 words2) p i ≡ object_in (state_of l active marks words) p i
    go true e = ⊎_elim
        (λ (h : i < l.objects). seen_there l active2 marks2 words2 p i (same ∙ e) (inside e) h ∙ ap (λ (b : Bool). Some (not b)) (own e h) ∙ sym (seen_there l active marks words p i e (inside e) h))
        (λ (h : l.objects ≤ i). seen_past l active2 marks2 words2 p i (same ∙ e) (inside e) h ∙ sym (seen_past l active marks words p i e (inside e) h))
        (cases_lt i l.objects)
    go false e = seen_none l active2 marks2 words2 p i (same ∙ e) ∙ sym (seen_none l active marks words p i e)

some_is : (o : Option Bool) (b : Bool) → o ≡ Some b → IsSome o
some_is o b e = ap is_some e

-- the state of a pool is settled
pub settled_now : (l : Layout) (active : Option ℕ) (marks records words : Owned) → IsPool l active marks records words → IsSettled l (state_of l active marks.words words.words)
settled_now l active marks records words p = record {
  apart = spans_apart l (mark_of l marks.words) (live_of l words.words) p.shape.inside p.shape.apart (λ q. flags_length (λ i. not (owns words.words (place l q i))) 0 l.objects) 0 l.pages 0 (λ q h m. h);
  used = λ q i h. let s = of_seen l active marks.words words.words q i p.shape h in ⊎_elim
      (λ (a : active ≡ Some q). inl a)
      (λ (a : (j : ℕ) × (j < l.objects) × (owns words.words (place l q j) ≡ false)). inr (a.0, seen_there l active marks.words words.words q a.0 s.0 (p.shape.inside q s.0) a.1 ∙ ap (λ (b : Bool). Some (not b)) a.2))
      (p.settled q s.0);
  active = λ q a. let m = p.active_marked q a in some_is _ _ (seen_there l active marks.words words.words q 0 m (p.shape.inside q m) (let z = p.layout.some in omega arith));
  some_active = λ q i h. let s = of_seen l active marks.words words.words q i p.shape h in p.some_active q s.0;
}

some_and : (b : Bool) (o : Option ℕ) → is_some (cond b None o) ≡ (is_some o && not b)
some_and true (Some x) = refl
some_and true None = refl
some_and false (Some x) = refl
some_and false None = refl

-- what a part owns when a range went out
pub rest_keys : (m : WordMap) (from len k : ℕ) → owns (rest_of m from len) k ≡ (owns m k && not (is_within from len k))
rest_keys m from len k = ap is_some (at-rest_cond m from len k) ∙ some_and (is_within from len k) (at m k)

-- the first words of another superblock's objects are none of this object's
pub elsewhere : (l : Layout) (marked own : ℕ → Bool) (p i q j : ℕ) → IsLayout l → IsShape l marked own → marked p ≡ true → marked q ≡ true → p ≢ q → i < l.objects → j < l.objects → is_within (place l p i) l.size (place l q j) ≡ false
elsewhere l marked own p i q j a s mp mq n low low2 = false_from_ne_true (is_within (place l p i) l.size (place l q j)) (λ h.
    no_common l p q (place l q j) (parted l marked own p q s mp mq n) (in_object l p i (place l q j) a low h).0 (place_covers l q j a low2))

pub record_apart : (l : Layout) (p q k : ℕ) → q ≢ p → record_at l q ≤ k → k < record_at l q + 3 → (k < record_at l p) ⊎ (record_at l p + 7 ≤ k)
record_apart l p q k n x y = ⊎_elim
    (λ (h : q < p). inl (omega arith))
    (λ (h : p ≤ q). inr (omega arith))
    (cases_lt q p)

-- an object is out, and its superblock is the active one
pub after_alloc : (l : Layout) (active : Option ℕ) (page at_word : ℕ) (marks records words records2 words2 part : Owned) → IsPool l active marks records words → mark_of l marks.words page ≡ true
    → ((q : ℕ) → active ≡ Some q → HasRoom l records.words q → q ≡ page) → IsTakenOut l page records words records2 words2 part at_word → IsPool l (Some page) marks records2 words2
after_alloc l active page at_word marks records words records2 words2 part p m first t = record {
  records_here = t.same.region ∙ p.records_here;
  words_here = ap (λ (o : Owned). o.region) t.rest ∙ p.words_here;
  layout = p.layout;
  bits = p.bits;
  shape = shape_less l (mark_of l marks.words) (owns words.words) (owns words2.words) page t.index p.layout p.shape m t.low keys;
  records_are = records_same l (mark_of l marks.words) (owns records.words) (owns records2.words) t.same.keys p.records_are;
  records_say = λ q mq. dite (ℕ_discrete q page)
      (λ (e : q ≡ page). subst (λ (z : ℕ). IsRecordOf l records2.words words2.words z) (sym e) t.says)
      (λ (n : q ≢ page). book_same l q records.words words.words records2.words words2.words (λ k x y. t.same.others k (record_apart l page q k n x y))
      (λ j low. ap (λ (o : Owned). at o.words (place l q j)) t.rest ∙ at-rest_out words.words at_word l.size (place l q j)
      (subst (λ (z : ℕ). is_within z l.size (place l q j) ≡ false) (sym t.at_is) (elsewhere l (mark_of l marks.words) (owns words.words) page t.index q j p.layout p.shape m mq (λ e. n (sym e)) t.low low)))
      (p.records_say q mq));
  active_marked = λ q e. let same : page ≡ q = cc in ap (mark_of l marks.words) (sym same) ∙ m;
  some_active = λ q mq. refl;
  settled = λ q mq. dite (ℕ_discrete q page)
      (λ (e : q ≡ page). inl (ap Some (sym e)))
      (λ (n : q ≢ page). inr (⊎_elim
      (λ (a : active ≡ Some q). (0, (let z = p.layout.some in omega arith), less q 0 (no_room l q 0 records.words words.words (p.records_say q mq) (λ h. n (first q a h)) (let z = p.layout.some in omega arith))))
      (λ (a : (j : ℕ) × (j < l.objects) × (owns words.words (place l q j) ≡ false)). (a.0, a.1, less q a.0 a.2))
      (p.settled q mq)));
}
  where
    keys : (k : ℕ) → owns words2.words k ≡ (owns words.words k && not (is_within (place l page t.index) l.size k))
    keys k = ap (λ (o : Owned). owns o.words k) t.rest ∙ rest_keys words.words at_word l.size k ∙ ap (λ (z : ℕ). owns words.words k && not (is_within z l.size k)) t.at_is

    and_none : (a b : Bool) → a ≡ false → (a && b) ≡ false
    and_none true b e = cc
    and_none false b e = refl

    less : (q j : ℕ) → owns words.words (place l q j) ≡ false → owns words2.words (place l q j) ≡ false
    less q j e = keys (place l q j) ∙ and_none (owns words.words (place l q j)) (not (is_within (place l page t.index) l.size (place l q j))) e

pub alloc_legal : (l : Layout) (active : Option ℕ) (page at_word : ℕ) (marks records words records2 words2 part : Owned) → IsPool l active marks records words → mark_of l marks.words page ≡ true
    → ((q : ℕ) → active ≡ Some q → HasRoom l records.words q → q ≡ page) → IsTakenOut l page records words records2 words2 part at_word
    → IsAlloc l (state_of l active marks.words words.words) at_word (state_of l (Some page) marks.words words2.words)
alloc_legal l active page at_word marks records words records2 words2 part p m first t = record {
  page = page;
  index = t.index;
  at_is = t.at_is;
  was_free = seen_there l active marks.words words.words page t.index m (p.shape.inside page m) t.low ∙ ap (λ (b : Bool). Some (not b)) t.was_free;
  is_live = seen_there l (Some page) marks.words words2.words page t.index m (p.shape.inside page m) t.low ∙ ap (λ (b : Bool). Some (not b)) gone;
  same = λ q j h. seen_same l active (Some page) marks.words marks.words words.words words2.words q j (p.shape.inside q) refl (λ mq low. kept q j h mq low);
  active = refl;
  first = λ q i a free.
      let s = of_seen l active marks.words words.words q i p.shape (some_is _ _ free) in
      first q a (free_room l q i records.words words.words (p.records_say q s.0) s.1 (is_true (owns words.words (place l q i)) (sym (seen_there l active marks.words words.words q i s.0 (p.shape.inside q s.0) s.1) ∙ free)));
  settled = settled_now l (Some page) marks records2 words2 (after_alloc l active page at_word marks records words records2 words2 part p m first t);
}
  where
    is_true : (b : Bool) → Some (not b) ≡ Some false → b ≡ true
    is_true true e = refl
    is_true false e = cc

    inside : is_within at_word l.size (place l page t.index) ≡ true
    inside = subst (λ (z : ℕ). is_within z l.size (place l page t.index) ≡ true) (sym t.at_is) (place_in l page t.index p.layout t.low)

    gone : owns words2.words (place l page t.index) ≡ false
    gone = ap (λ (o : Owned). owns o.words (place l page t.index)) t.rest ∙ ap is_some (at-rest_in words.words at_word l.size (place l page t.index) inside)

    out : (q j : ℕ) → (q ≢ page) ⊎ (j ≢ t.index) → mark_of l marks.words q ≡ true → j < l.objects → is_within (place l page t.index) l.size (place l q j) ≡ false
    out q j h mq low = dite (ℕ_discrete q page)
        (λ (e : q ≡ page). ⊎_elim
        (λ (n : q ≢ page). absurd (n e))
        (λ (n : j ≢ t.index). subst (λ (z : ℕ). is_within (place l page t.index) l.size (place l z j) ≡ false) (sym e) (other_object l page t.index j p.layout n))
        h)
        (λ (n : q ≢ page). elsewhere l (mark_of l marks.words) (owns words.words) page t.index q j p.layout p.shape m mq (λ e. n (sym e)) t.low low)

    kept : (q j : ℕ) → (q ≢ page) ⊎ (j ≢ t.index) → mark_of l marks.words q ≡ true → j < l.objects → owns words2.words (place l q j) ≡ owns words.words (place l q j)
    kept q j h mq low =
        ap (λ (o : Owned). owns o.words (place l q j)) t.rest
        ∙ ap is_some (at-rest_out words.words at_word l.size (place l q j) (subst (λ (z : ℕ). is_within z l.size (place l q j) ≡ false) (sym t.at_is) (out q j h mq low)))

-- no object is free
pub all_live : (l : Layout) (active : Option ℕ) (marks records words : Owned) → IsPool l active marks records words → ((q : ℕ) → mark_of l marks.words q ≡ true → at records.words (record_at l q) ≡ Some 0)
    → AllLive (state_of l active marks.words words.words)
all_live l active marks records words p none q i free =
    let s = of_seen l active marks.words words.words q i p.shape (some_is _ _ free) in
    let live = no_room l q i records.words words.words (p.records_say q s.0) (λ r. zero_room r.0 (some_zero r.0 (sym r.1 ∙ none q s.0)) r.2) s.1 in
    conflict (owns words.words (place l q i)) live (sym (seen_there l active marks.words words.words q i s.0 (p.shape.inside q s.0) s.1) ∙ free)
  where
    some_zero : (x : ℕ) → Some x ≡ Some 0 → x ≡ 0
    some_zero x e = cc

    zero_room : (x : ℕ) → x ≡ 0 → 0 < x → ⊥
    zero_room x e h = omega arith

    conflict : (b : Bool) → b ≡ false → Some (not b) ≡ Some false → ⊥
    conflict true e f = cc
    conflict false e f = cc

-- some object is free
pub some_free : (l : Layout) (active : Option ℕ) (page : ℕ) (marks records words : Owned) → IsPool l active marks records words → mark_of l marks.words page ≡ true → HasRoom l records.words page → HasFree (state_of l active marks.words words.words)
some_free l active page marks records words p m r =
    let b = p.records_say page m in
    let f = has_free l.objects (place l page) (first_word l words.words page) b.room b.head b.used b.lists (more b.room r.0 (some_same b.room r.0 (sym b.room_is ∙ r.1)) r.2) in
    (page, f.0, seen_there l active marks.words words.words page f.0 m (p.shape.inside page m) f.1 ∙ ap (λ (b : Bool). Some (not b)) f.2)
  where
    some_same : (x y : ℕ) → Some x ≡ Some y → x ≡ y
    some_same x y e = cc

    more : (x y : ℕ) → x ≡ y → 0 < y → 0 < x
    more x y e h = omega arith

-- the words of an object that is out
pub chunk_just : (l : Layout) (active : Option ℕ) (page at_word : ℕ) (marks records words records2 words2 part : Owned) → IsPool l active marks records words → mark_of l marks.words page ≡ true
    → IsTakenOut l page records words records2 words2 part at_word → (0 < at_word) × HasJust part.words at_word l.size
chunk_just l active page at_word marks records words records2 words2 part p m t = (
  subst (λ (z : ℕ). 0 < z) (sym t.at_is) (place_positive l page t.index p.layout),
  subst (λ (o : Owned). HasJust o.words at_word l.size) (sym t.range) (cut_just words.words at_word l.size (λ k x y.
      object_owned l (mark_of l marks.words) (owns words.words) page t.index k p.layout p.shape m t.low t.was_free (subst (λ (z : ℕ). is_within z l.size k ≡ true) t.at_is (within_true at_word l.size k x y)))),
)

pub chunk_bytes : (size : ℕ) → (8 * size % 8 ≡ 0) × (8 * size / 8 ≡ size)
chunk_bytes size = (omega arith, omega arith)
