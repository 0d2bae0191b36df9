-- What a pool is after an object came back.
use Rattle.std.proofs.Common.{◌≡◌, ◌≢◌, ℕ, ◌+◌, ◌*◌, ◌<◌, ◌≤◌, ◌⊎◌, inl, inr, ⊎_elim, Bool, true, false, not, ◌&&◌, ◌||◌, Option, Some, None, is_some, IsSome, refl, sym, ap, subst, ◌∙◌, arith}
use mathlib.Core.Logic.{dite}
use native.Mathlib.Decide.{ℕ_discrete}
use Rattle.std.proofs.lemmas.Bool.{cases_lt, false_from_ne_true}
use Rattle.word_map.specs.WordMap.{WordMap, at, HasJust, Disjoint, is_within, union}
use Rattle.word_map.proofs.Maps.{at-rest_out, within_is, within_true}
use Rattle.free_pages.proofs.AreaWords.{cut_just}
use Rattle.region_words.specs.Parts.{Owned}
use Rattle.span_pools.specs.declared.layout.Layout.{Layout}
use Rattle.span_pools.specs.Places.{base, place, record_at, covers, object_of, IsLayout}
use Rattle.span_pools.specs.Shape.{IsShape}
use Rattle.span_pools.specs.Legal.{PoolState, object_in, IsFreed, IsEmptied, IsStranger}
use Rattle.span_pools.specs.View.{mark_of, owns, first_word, state_of, IsRecordOf, IsMarked, IsPutBack, IsReleased, IsPool}
use Rattle.span_pools.proofs.FreeLists.{has_live, room_most, rest_free}
use Rattle.span_pools.proofs.Covers.{place_in, place_covers, no_common, in_object, other_object, parted}
use Rattle.span_pools.proofs.Shapes.{shape_more, shape_given, shape_whole, records_given}
use Rattle.span_pools.proofs.RecordStores.{union_any, union_keys, union_else, apart_none}
use Rattle.span_pools.proofs.Views.{of_seen, seen_there, seen_past, seen_none}
use Rattle.span_pools.proofs.Pools.{no_bool, book_same, records_same, rest_keys, seen_same, settled_now, elsewhere, record_apart}

some_same : (x y : ℕ) → Some x ≡ Some y → x ≡ y
some_same x y e = cc

or_none : (a b : Bool) → a ≡ false → b ≡ false → (a || b) ≡ false
or_none true b e f = cc
or_none false b e f = f

or_second : (a b : Bool) → b ≡ true → (a || b) ≡ true
or_second true b e = refl
or_second false b e = e

and_none : (a b : Bool) → a ≡ false → (a && b) ≡ false
and_none true b e = cc
and_none false b e = refl

-- an object is back, and its superblock stays
pub after_free : (l : Layout) (active : Option ℕ) (page at_word : ℕ) (marks records words records2 words2 : Owned) → IsPool l active marks records words → mark_of l marks.words page ≡ true → IsPutBack l page records words records2 words2 at_word
    → ((active ≡ Some page) ⊎ ((x : ℕ) → at records.words (record_at l page) ≡ Some x → x + 1 ≢ l.objects)) → IsPool l active marks records2 words2
after_free l active page at_word marks records words records2 words2 p m t stays = record {
  records_here = t.same.region ∙ p.records_here;
  words_here = t.region ∙ p.words_here;
  layout = p.layout;
  bits = p.bits;
  shape = shape_more l (mark_of l marks.words) (owns words.words) (owns words2.words) page t.index p.layout p.shape m t.low keys;
  records_are = records_same l (mark_of l marks.words) (owns records.words) (owns records2.words) t.same.keys p.records_are;
  records_say = λ q mq. dite (ℕ_discrete q page)
      (λ (e : q ≡ page). subst (λ (z : ℕ). IsRecordOf l records2.words words2.words z) (sym e) t.says)
      (λ (n : q ≢ page). book_same l q records.words words.words records2.words words2.words (λ k x y. t.same.others k (record_apart l page q k n x y))
      (λ j low. t.others (place l q j) (out q j mq n low)) (p.records_say q mq));
  active_marked = p.active_marked;
  some_active = p.some_active;
  settled = λ q mq. dite (ℕ_discrete q page)
      (λ (e : q ≡ page). subst (λ (z : ℕ). (active ≡ Some z) ⊎ ((i : ℕ) × (i < l.objects) × (owns words2.words (place l z i) ≡ false))) (sym e) (⊎_elim (λ (a : active ≡ Some page). inl a) (λ (h : (x : ℕ) → at records.words (record_at l page) ≡ Some x → x + 1 ≢ l.objects). inr (live h)) stays))
      (λ (n : q ≢ page). ⊎_elim
      (λ (a : active ≡ Some q). inl a)
      (λ (a : (j : ℕ) × (j < l.objects) × (owns words.words (place l q j) ≡ false)). inr (a.0, a.1, ap is_some (t.others (place l q a.0) (out q a.0 mq n a.1)) ∙ a.2))
      (p.settled q mq));
}
  where
    keys : (k : ℕ) → owns words2.words k ≡ (owns words.words k || is_within (place l page t.index) l.size k)
    keys k = t.keys k ∙ ap (λ (z : ℕ). owns words.words k || is_within z l.size k) t.at_is

    out : (q j : ℕ) → mark_of l marks.words q ≡ true → q ≢ page → j < l.objects → is_within at_word l.size (place l q j) ≡ false
    out q j mq n low = subst (λ (z : ℕ). is_within z l.size (place l q j) ≡ false) (sym t.at_is) (elsewhere l (mark_of l marks.words) (owns words.words) page t.index q j p.layout p.shape m mq (λ e. n (sym e)) t.low low)

    live : ((x : ℕ) → at records.words (record_at l page) ≡ Some x → x + 1 ≢ l.objects) → (i : ℕ) × (i < l.objects) × (owns words2.words (place l page i) ≡ false)
    live h =
        let b = t.says in
        let old = p.records_say page m in
        let more : b.room ≡ old.room + 1 = some_same b.room (old.room + 1) (sym b.room_is ∙ t.more old.room old.room_is) in
        let most = room_most l.objects (place l page) (first_word l words2.words page) b.room b.head b.used b.lists in
        let n = h old.room old.room_is in
        has_live l.objects (place l page) (first_word l words2.words page) b.room b.head b.used b.lists (less b.room old.room l.objects more most n)
      where
        less : (a x n : ℕ) → a ≡ x + 1 → a ≤ n → x + 1 ≢ n → a < n
        less a x n e h m = omega arith

pub free_legal : (l : Layout) (active : Option ℕ) (page at_word bytes : ℕ) (marks records words records2 words2 : Owned) → IsPool l active marks records words → mark_of l marks.words page ≡ true → IsPutBack l page records words records2 words2 at_word
    → ((active ≡ Some page) ⊎ ((x : ℕ) → at records.words (record_at l page) ≡ Some x → x + 1 ≢ l.objects)) → bytes ≡ 8 * l.size
    → IsFreed l (state_of l active marks.words words.words) at_word bytes (state_of l active marks.words words2.words)
free_legal l active page at_word bytes marks records words records2 words2 p m t stays e = record {
  page = page;
  index = t.index;
  at_is = t.at_is;
  bytes_is = e;
  was_live = seen_there l active marks.words words.words page t.index m (p.shape.inside page m) t.low ∙ ap (λ (b : Bool). Some (not b)) t.was_live;
  is_free = seen_there l active marks.words words2.words page t.index m (p.shape.inside page m) t.low
      ∙ ap (λ (b : Bool). Some (not b)) (t.keys (place l page t.index) ∙ or_second (owns words.words (place l page t.index)) (is_within at_word l.size (place l page t.index)) (subst (λ (z : ℕ). is_within z l.size (place l page t.index) ≡ true) (sym t.at_is) (place_in l page t.index p.layout t.low)));
  same = λ q j h. seen_same l active active marks.words marks.words words.words words2.words q j (p.shape.inside q) refl (λ mq low. ap is_some (t.others (place l q j) (out q j h mq low)));
  active = refl;
  settled = settled_now l active marks records2 words2 (after_free l active page at_word marks records words records2 words2 p m t stays);
}
  where
    out : (q j : ℕ) → (q ≢ page) ⊎ (j ≢ t.index) → mark_of l marks.words q ≡ true → j < l.objects → is_within at_word l.size (place l q j) ≡ false
    out q j h mq low = subst (λ (z : ℕ). is_within z l.size (place l q j) ≡ false) (sym t.at_is) (dite (ℕ_discrete q page)
        (λ (e : q ≡ page). ⊎_elim
        (λ (n : q ≢ page). absurd (n e))
        (λ (n : j ≢ t.index). subst (λ (z : ℕ). is_within (place l page t.index) l.size (place l z j) ≡ false) (sym e) (other_object l page t.index j p.layout n))
        h)
        (λ (n : q ≢ page). elsewhere l (mark_of l marks.words) (owns words.words) page t.index q j p.layout p.shape m mq (λ e. n (sym e)) t.low low))

-- what is known where an object of page `page` is the last live one: its place, and the words that came back
pub record IsLast (l : Layout) (page index at_word : ℕ) (records words part : Owned) : Type 0 where
  pub low : index < l.objects
  pub at_is : at_word ≡ place l page index
  pub just : HasJust part.words at_word l.size
  pub full : (x : ℕ) → at records.words (record_at l page) ≡ Some x → x + 1 ≡ l.objects
  pub apart : Disjoint words.words part.words

-- an object whose superblock has all others free is such
pub is_last : (l : Layout) (page index at_word room : ℕ) (records words part : Owned) → index < l.objects → at_word ≡ place l page index → HasJust part.words at_word l.size
    → at records.words (record_at l page) ≡ Some room → room + 1 ≡ l.objects → Disjoint words.words part.words → IsLast l page index at_word records words part
is_last l page index at_word room records words part low at_is just room_is full apart = record {
  low = low;
  at_is = at_is;
  just = just;
  full = λ x e. ap (λ (z : ℕ). z + 1) (some_same x room (sym e ∙ room_is)) ∙ full;
  apart = apart;
}

last_out : (l : Layout) (page index at_word : ℕ) (records words part : Owned) → IsLayout l → IsLast l page index at_word records words part → owns words.words (place l page index) ≡ false
last_out l page index at_word records words part a t = subst (λ (z : ℕ). owns words.words z ≡ false) t.at_is (apart_none words.words part.words at_word l.size at_word t.apart t.just (within_true at_word l.size at_word (omega arith) (let s = a.size in omega arith)))

others_in : (l : Layout) (active : Option ℕ) (page index at_word i : ℕ) (marks records words part : Owned) → IsPool l active marks records words → mark_of l marks.words page ≡ true → IsLast l page index at_word records words part → i < l.objects → i ≢ index → owns words.words (place l page i) ≡ true
others_in l active page index at_word i marks records words part p m t low n =
    let b = p.records_say page m in rest_free l.objects (place l page) (first_word l words.words page) b.room b.head b.used index i b.lists (t.full b.room b.room_is) t.low (last_out l page index at_word records words part p.layout t) low n

-- all words of the superblock are there then
pub last_whole : (l : Layout) (active : Option ℕ) (page index at_word k : ℕ) (marks records words part : Owned) → IsPool l active marks records words → mark_of l marks.words page ≡ true → IsLast l page index at_word records words part
    → covers l page k ≡ true → (owns words.words k || owns part.words k) ≡ true
last_whole l active page index at_word k marks records words part p m t c =
    ap (λ (b : Bool). owns words.words k || b) (t.just k ∙ ap (λ (z : ℕ). is_within z l.size k) t.at_is)
    ∙ shape_whole l (mark_of l marks.words) (λ j. owns words.words j || is_within (place l page index) l.size j) page k
    (shape_more l (mark_of l marks.words) (owns words.words) (λ j. owns words.words j || is_within (place l page index) l.size j) page index p.layout p.shape m t.low (λ j. refl)) m
    (λ i low. dite (ℕ_discrete i index)
    (λ (e : i ≡ index). or_second (owns words.words (place l page i)) (is_within (place l page index) l.size (place l page i)) (subst (λ (z : ℕ). is_within (place l page index) l.size (place l page z) ≡ true) (sym e) (place_in l page index p.layout t.low)))
    (λ (n : i ≢ index). ap (λ (b : Bool). b || is_within (place l page index) l.size (place l page i)) (others_in l active page index at_word i marks records words part p m t low n)))
    c

-- which words are owned when the superblock is out
keys_out : (l : Layout) (page index at_word k : ℕ) (records words part records2 words2 run control : Owned) → IsLayout l → IsLast l page index at_word records words part → IsReleased l page records words part records2 words2 run control
    → owns words2.words k ≡ (owns words.words k && not (covers l page k))
keys_out l page index at_word k records words part records2 words2 run control a t d =
    ap (λ (o : Owned). owns o.words k) d.rest ∙ rest_keys (union words.words part.words) (base l page) 8192 k
    ∙ ap (λ (b : Bool). b && not (covers l page k)) (union_keys words.words part.words at_word l.size k t.just)
    ∙ drop_inside (owns words.words k) (is_within at_word l.size k) (covers l page k) (λ h. (in_object l page index k a t.low (subst (λ (z : ℕ). is_within z l.size k ≡ true) t.at_is h)).0)
  where
    drop_inside : (o w c : Bool) → (w ≡ true → c ≡ true) → ((o || w) && not c) ≡ (o && not c)
    drop_inside true w c h = refl
    drop_inside false true c h = ap not (h refl)
    drop_inside false false c h = refl

-- the words of other superblocks stay
pub outside_out : (l : Layout) (page q index at_word k : ℕ) (records words part records2 words2 run control : Owned) → IsLayout l → IsLast l page index at_word records words part → IsReleased l page records words part records2 words2 run control
    → ((page + 16 ≤ q) ⊎ (q + 16 ≤ page)) → covers l q k ≡ true → at words2.words k ≡ at words.words k
outside_out l page q index at_word k records words part records2 words2 run control a t d apart c =
    let out : covers l page k ≡ false = false_from_ne_true (covers l page k) (λ h. no_common l page q k apart h c) in
    ap (λ (o : Owned). at o.words k) d.rest ∙ at-rest_out (union words.words part.words) (base l page) 8192 k out
    ∙ union_else words.words part.words at_word l.size k t.just (false_from_ne_true (is_within at_word l.size k) (λ h. no_bool (covers l page k) (in_object l page index k a t.low (subst (λ (z : ℕ). is_within z l.size k ≡ true) t.at_is h)).0 out))

-- which superblock is the active one after one went out: one that is there, if any is
pub record IsNextActive (l : Layout) (page : ℕ) (active active2 : Option ℕ) (marks2 : WordMap) : Type 0 where
  pub there : (q : ℕ) → active2 ≡ Some q → mark_of l marks2 q ≡ true
  pub some : (q : ℕ) → mark_of l marks2 q ≡ true → IsSome active2
  pub stays : (q : ℕ) → active ≡ Some q → q ≢ page → active2 ≡ Some q

pub after_out : (l : Layout) (active active2 : Option ℕ) (page index at_word : ℕ) (marks marks2 records words part records2 words2 run control : Owned) → IsPool l active marks records words → mark_of l marks.words page ≡ true
    → IsLast l page index at_word records words part → IsNextActive l page active active2 marks2.words → IsMarked l page false marks marks2 → IsReleased l page records words part records2 words2 run control → IsPool l active2 marks2 records2 words2
after_out l active active2 page index at_word marks marks2 records words part records2 words2 run control p m t next g d = record {
  records_here = ap (λ (o : Owned). o.region) d.rest_records ∙ p.records_here ∙ sym g.region;
  words_here = ap (λ (o : Owned). o.region) d.rest ∙ p.words_here ∙ sym g.region;
  layout = p.layout;
  bits = g.bits;
  shape = shape_given l (mark_of l marks.words) (mark_of l marks2.words) (owns words.words) (owns words2.words) page p.layout p.shape m g.here g.others (λ k. keys_out l page index at_word k records words part records2 words2 run control p.layout t d);
  records_are = records_given l (mark_of l marks.words) (mark_of l marks2.words) (owns records.words) (owns records2.words) page p.records_are g.here g.others (λ q mq n. apart q mq n)
      (λ k. ap (λ (o : Owned). owns o.words k) d.rest_records ∙ rest_keys records.words (record_at l page) 112 k);
  records_say = λ q mq. let n = unlike q mq in let old = before q mq in
      book_same l q records.words words.words records2.words words2.words
      (λ k x y. ap (λ (o : Owned). at o.words k) d.rest_records ∙ at-rest_out records.words (record_at l page) 112 k (record_out q k (apart q old n) x y))
      (λ i low. outside_out l page q index at_word (place l q i) records words part records2 words2 run control p.layout t d (apart q old n) (place_covers l q i p.layout low)) (p.records_say q old);
  active_marked = next.there;
  some_active = next.some;
  settled = λ q mq. let n = unlike q mq in let old = before q mq in ⊎_elim
      (λ (a : active ≡ Some q). inl (next.stays q a n))
      (λ (a : (j : ℕ) × (j < l.objects) × (owns words.words (place l q j) ≡ false)). inr (a.0, a.1, ap is_some (outside_out l page q index at_word (place l q a.0) records words part records2 words2 run control p.layout t d (apart q old n) (place_covers l q a.0 p.layout a.1)) ∙ a.2))
      (p.settled q old);
}
  where
    unlike : (q : ℕ) → mark_of l marks2.words q ≡ true → q ≢ page
    unlike q mq e = no_bool (mark_of l marks2.words page) (ap (mark_of l marks2.words) (sym e) ∙ mq) g.here

    before : (q : ℕ) → mark_of l marks2.words q ≡ true → mark_of l marks.words q ≡ true
    before q mq = sym (g.others q (unlike q mq)) ∙ mq

    apart : (q : ℕ) → mark_of l marks.words q ≡ true → q ≢ page → (page + 16 ≤ q) ⊎ (q + 16 ≤ page)
    apart q mq n = parted l (mark_of l marks.words) (owns words.words) page q p.shape m mq (λ e. n (sym e))

    record_out : (q k : ℕ) → ((page + 16 ≤ q) ⊎ (q + 16 ≤ page)) → record_at l q ≤ k → k < record_at l q + 3 → is_within (record_at l page) 112 k ≡ false
    record_out q k h x y = false_from_ne_true (is_within (record_at l page) 112 k) (λ w. let i = within_is (record_at l page) 112 k w in ⊎_elim (λ (z : page + 16 ≤ q). omega (arith, i.1)) (λ (z : q + 16 ≤ page). omega (arith, i.0)) h)

-- it was not the active one, which stays
idle_next : (l : Layout) (active : Option ℕ) (page : ℕ) (marks marks2 records words : Owned) → IsPool l active marks records words → (active ≢ Some page) → IsMarked l page false marks marks2 → IsNextActive l page active active marks2.words
idle_next l active page marks marks2 records words p idle g = record {
  there = λ q e. g.others q (λ s. idle (e ∙ ap Some s)) ∙ p.active_marked q e;
  some = λ q mq. p.some_active q (sym (g.others q (λ e. no_bool (mark_of l marks2.words page) (ap (mark_of l marks2.words) (sym e) ∙ mq) g.here)) ∙ mq);
  stays = λ q a n. a;
}

pub after_emptied : (l : Layout) (active : Option ℕ) (page index at_word : ℕ) (marks marks2 records words part records2 words2 run control : Owned) → IsPool l active marks records words → mark_of l marks.words page ≡ true
    → IsLast l page index at_word records words part → (active ≢ Some page) → IsMarked l page false marks marks2 → IsReleased l page records words part records2 words2 run control → IsPool l active marks2 records2 words2
after_emptied l active page index at_word marks marks2 records words part records2 words2 run control p m t idle g d =
    after_out l active active page index at_word marks marks2 records words part records2 words2 run control p m t (idle_next l active page marks marks2 records words p idle g) g d

pub emptied_legal : (l : Layout) (active : Option ℕ) (page index at_word bytes run_at : ℕ) (marks marks2 records words part records2 words2 run control : Owned) → IsPool l active marks records words → mark_of l marks.words page ≡ true
    → IsLast l page index at_word records words part → (active ≢ Some page) → IsMarked l page false marks marks2 → IsReleased l page records words part records2 words2 run control → bytes ≡ 8 * l.size → run_at ≡ base l page
    → IsEmptied l (state_of l active marks.words words.words) at_word bytes run_at (state_of l active marks2.words words2.words)
emptied_legal l active page index at_word bytes run_at marks marks2 records words part records2 words2 run control p m t idle g d e f = record {
  page = page;
  index = index;
  at_is = t.at_is;
  bytes_is = e;
  run_is = f;
  was_live = seen_there l active marks.words words.words page index m (p.shape.inside page m) t.low ∙ ap (λ (b : Bool). Some (not b)) (last_out l page index at_word records words part p.layout t);
  last = λ i n live. ⊎_elim
      (λ (low : i < l.objects). differ (sym (seen_there l active marks.words words.words page i m (p.shape.inside page m) low ∙ ap (λ (b : Bool). Some (not b)) (others_in l active page index at_word i marks records words part p m t low n)) ∙ live))
      (λ (many : l.objects ≤ i). nothing (object_in (state_of l active marks.words words.words) page i) (seen_past l active marks.words words.words page i m (p.shape.inside page m) many) live)
      (cases_lt i l.objects);
  not_active = idle;
  gone = λ i. seen_none l active marks2.words words2.words page i g.here;
  same = λ q j n. seen_same l active active marks.words marks2.words words.words words2.words q j (p.shape.inside q) (g.others q n)
      (λ mq low. ap is_some (outside_out l page q index at_word (place l q j) records words part records2 words2 run control p.layout t d (parted l (mark_of l marks.words) (owns words.words) page q p.shape m mq (λ s. n (sym s))) (place_covers l q j p.layout low)));
  active = refl;
  settled = settled_now l active marks2 records2 words2 (after_emptied l active page index at_word marks marks2 records words part records2 words2 run control p m t idle g d);
}
  where
    differ : Some false ≡ Some true → ⊥
    differ h = cc

    nothing : (o : Option Bool) → o ≡ None → o ≡ Some true → ⊥
    nothing o e h = cc

-- the tokens that go out with it
pub run_just : (l : Layout) (active : Option ℕ) (page index at_word : ℕ) (marks records words part records2 words2 run control : Owned) → IsPool l active marks records words → mark_of l marks.words page ≡ true
    → IsLast l page index at_word records words part → IsReleased l page records words part records2 words2 run control → HasJust run.words (base l page) 8192 × HasJust control.words (record_at l page) 112
run_just l active page index at_word marks records words part records2 words2 run control p m t d = (
  subst (λ (o : Owned). HasJust o.words (base l page) 8192) (sym d.run_is) (cut_just (union words.words part.words) (base l page) 8192 (λ k x y.
      union_any words.words part.words k ∙ last_whole l active page index at_word k marks records words part p m t (within_true (base l page) 8192 k x y))),
  subst (λ (o : Owned). HasJust o.words (record_at l page) 112) (sym d.control_is) (cut_just records.words (record_at l page) 112 (λ k x y. p.records_are.all page k m (within_true (record_at l page) 112 k x y))),
)

-- no superblock has an object at this place, and the pool does not own its word
pub stranger_is : (l : Layout) (active : Option ℕ) (at_word bytes : ℕ) (marks words : WordMap) (after : PoolState) → IsShape l (mark_of l marks) (owns words) → ((q i : ℕ) → mark_of l marks q ≡ true → i < l.objects → at_word ≢ place l q i)
    → (bytes ≡ 8 * l.size → owns words at_word ≡ false) → after ≡ state_of l active marks words → IsStranger l (state_of l active marks words) at_word bytes after
stranger_is l active at_word bytes marks words after s none out e = record {
  none = λ q i at_place _. go q i at_place (mark_of l marks q) refl;
  inside = λ q there has long. live q (of_seen l active marks words q 0 s there).0 has (out long);
  same = e;
}
  where
    go : (q i : ℕ) → at_word ≡ place l q i → (b : Bool) → mark_of l marks q ≡ b → object_in (state_of l active marks words) q i ≡ None
    go q i at_place true m = ⊎_elim
        (λ (low : i < l.objects). absurd (none q i m low at_place))
        (λ (many : l.objects ≤ i). seen_past l active marks words q i m (s.inside q m) many)
        (cases_lt i l.objects)
    go q i at_place false m = seen_none l active marks words q i m

    live : (q : ℕ) → mark_of l marks q ≡ true → covers l q at_word ≡ true → owns words at_word ≡ false → object_in (state_of l active marks words) q (object_of l q at_word) ≡ Some true
    live q m has free = ⊎_elim
        (λ (low : object_of l q at_word < l.objects).
        seen_there l active marks words q (object_of l q at_word) m (s.inside q m) low ∙ ap (λ (b : Bool). Some (not b)) (sym (s.objects q at_word m has low) ∙ free))
        (λ (many : l.objects ≤ object_of l q at_word). absurd (no_bool (owns words at_word) (s.tail q at_word m has many) free))
        (cases_lt (object_of l q at_word) l.objects)
