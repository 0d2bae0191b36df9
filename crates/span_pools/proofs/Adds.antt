-- What a pool is after a superblock came in.
use Rattle.std.proofs.Common.{◌≡◌, ◌≢◌, ℕ, ◌+◌, ◌-◌, ◌*◌, ◌/◌, ◌<◌, ◌≤◌, ◌⊎◌, inl, inr, ⊎_elim, Bool, true, false, not, ◌&&◌, ◌||◌, Option, Some, None, is_some, IsSomeAnd, refl, sym, ap, subst, ◌∙◌, arith}
use mathlib.Core.Logic.{dite}
use native.Mathlib.Decide.{ℕ_discrete}
use Rattle.std.proofs.lemmas.Bool.{cases_lt, false_from_ne_true}
use Rattle.atomic_table.specs.Seated.{TableId}
use Rattle.word_map.specs.WordMap.{WordMap, at, HasJust, Disjoint, is_within, rest_of, union}
use Rattle.word_map.proofs.Maps.{at-rest_out, at-rest_in, within_is, within_true}
use Rattle.free_pages.proofs.AreaWords.{cut_just}
use Rattle.region_words.specs.Parts.{Owned, owned}
use Rattle.span_pools.specs.declared.layout.Layout.{Layout}
use Rattle.span_pools.specs.Places.{base, place, record_at, covers, IsLayout}
use Rattle.span_pools.specs.Legal.{AllLive, HasFree, IsAdd}
use Rattle.span_pools.specs.View.{mark_of, owns, first_word, state_of, IsRecordOf, HasRoom, IsMarked, IsAdmitted, IsPool}
use Rattle.span_pools.specs.PoolView.{IsSuperblock}
use Rattle.span_pools.proofs.FreeLists.{new_listed}
use Rattle.span_pools.proofs.Covers.{place_in, place_covers, no_common, in_object, other_object, size_small}
use Rattle.span_pools.proofs.Shapes.{shape_added, records_added}
use Rattle.span_pools.proofs.RecordStores.{union_keys, union_else, union_has}
use Rattle.span_pools.proofs.Views.{seen_there, seen_none}
use Rattle.span_pools.proofs.Pools.{no_bool, book_same, rest_keys, no_room, seen_same, settled_now}

-- no other superblock has a free object, and the new one is active; or one has, and the active one stays
abbrev pub NowActive : Layout → ℕ → WordMap → WordMap → Option ℕ → Option ℕ → Type 0
NowActive l page marks records active after = ((after ≡ Some page) × ((q : ℕ) → mark_of l marks q ≡ true → at records (record_at l q) ≡ Some 0))
    ⊎ ((after ≡ active) × ((q : ℕ) × (mark_of l marks q ≡ true) × HasRoom l records q))

-- the tokens of a superblock that comes in at a page
pub record IsComing (l : Layout) (page run_at : ℕ) (run control : Owned) : Type 0 where
  pub fits : page + 16 ≤ l.pages
  pub control_is : HasJust control.words (record_at l page) 112
  pub run_is : HasJust run.words (base l page) 8192
  pub at_is : run_at ≡ base l page

-- the page of a superblock's run is found by its first word
pub coming : (region : TableId) (l : Layout) (run_at word run_pages : ℕ) (run : Owned) (records : Option Owned) (control : Owned) → IsSuperblock region l run_at run_pages run records → word ≡ run_at → records ≡ Some control
    → HasJust run.words run_at (512 * run_pages) → IsComing l ((word - l.first) / 512) run_at run control
coming region l run_at word run_pages run records control q here there just =
    let same : q.page ≡ (word - l.first) / 512 = page_is l.first q.page word (here ∙ q.at_is) in
    subst (λ (z : ℕ). IsComing l z run_at run control) same (record {
      fits = q.inside;
      control_is = (subst (λ (o : Option Owned). IsSomeAnd o (λ x. (x.region ≡ region) × HasJust x.words (record_at l q.page) 112)) there q.records_are).1;
      run_is = subst (λ (z : ℕ). HasJust run.words z 8192) q.at_is (subst (λ (z : ℕ). HasJust run.words run_at (512 * z)) q.pages_is just);
      at_is = q.at_is;
    })
  where
    page_is : (first page at_word : ℕ) → at_word ≡ first + 512 * page → page ≡ (at_word - first) / 512
    page_is first page at_word e = omega arith

first_place : (l : Layout) (page : ℕ) → place l page 0 ≡ base l page
first_place l page = plain (base l page) l.size
  where
    plain : (b s : ℕ) → b + s * 0 ≡ b
    plain b s = omega arith

-- other superblocks have other pages, since the records are others
pub apart_new : (l : Layout) (active : Option ℕ) (page : ℕ) (marks records words control : Owned) → IsPool l active marks records words → HasJust control.words (record_at l page) 112 → Disjoint records.words control.words
    → (q : ℕ) → mark_of l marks.words q ≡ true → (page + 16 ≤ q) ⊎ (q + 16 ≤ page)
apart_new l active page marks records words control p just apart q m = ⊎_elim
    (λ (h : q < page). ⊎_elim
    (λ (x : page < q + 16). absurd (both page (within_true (record_at l q) 112 (record_at l page) (omega arith) (omega arith)) (within_true (record_at l page) 112 (record_at l page) (omega arith) (omega arith))))
    (λ (x : q + 16 ≤ page). inr x)
    (cases_lt page (q + 16)))
    (λ (h : page ≤ q). ⊎_elim
    (λ (x : q < page + 16). absurd (both q (within_true (record_at l q) 112 (record_at l q) (omega arith) (omega arith)) (within_true (record_at l page) 112 (record_at l q) (omega arith) (omega arith))))
    (λ (x : page + 16 ≤ q). inl x)
    (cases_lt q (page + 16)))
    (cases_lt q page)
  where
    clash : (o r : Option ℕ) (k : ℕ) → at records.words k ≡ o → at control.words k ≡ r → is_some o ≡ true → is_some r ≡ true → ⊥
    clash (Some x) (Some y) k e f g h = apart k x y e f
    clash (Some x) None k e f g h = cc
    clash None r k e f g h = cc

    both : (b : ℕ) → is_within (record_at l q) 112 (record_at l b) ≡ true → is_within (record_at l page) 112 (record_at l b) ≡ true → ⊥
    both b x y = clash (at records.words (record_at l b)) (at control.words (record_at l b)) (record_at l b) refl refl (p.records_are.all q (record_at l b) m x) (just (record_at l b) ∙ y)

pub unlike_new : (q page : ℕ) → ((page + 16 ≤ q) ⊎ (q + 16 ≤ page)) → q ≢ page
unlike_new q page h e = ⊎_elim (λ (x : page + 16 ≤ q). omega arith) (λ (x : q + 16 ≤ page). omega arith) h

join_less : (o c w : Bool) → (w ≡ true → o ≡ false) → ((o || c) && not w) ≡ (o || (c && not w))
join_less true c true h = let z = h refl in cc
join_less true c false h = refl
join_less false c w h = refl

-- which words are owned then
pub keys_new : (l : Layout) (active : Option ℕ) (page : ℕ) (marks records words run words2 : Owned) → IsPool l active marks records words → ((q : ℕ) → mark_of l marks.words q ≡ true → (page + 16 ≤ q) ⊎ (q + 16 ≤ page))
    → HasJust run.words (base l page) 8192 → words2 ≡ owned words.region (rest_of (union words.words run.words) (base l page) l.size)
    → (k : ℕ) → owns words2.words k ≡ (owns words.words k || (covers l page k && not (is_within (place l page 0) l.size k)))
keys_new l active page marks records words run words2 p apart just e k =
    ap (λ (o : Owned). owns o.words k) e ∙ rest_keys (union words.words run.words) (base l page) l.size k
    ∙ ap (λ (b : Bool). b && not (is_within (base l page) l.size k)) (union_keys words.words run.words (base l page) 8192 k just)
    ∙ ap (λ (z : ℕ). (owns words.words k || covers l page k) && not (is_within z l.size k)) (sym (first_place l page))
    ∙ join_less (owns words.words k) (covers l page k) (is_within (place l page 0) l.size k) (λ h. false_from_ne_true (owns words.words k) (λ o.
    let w = p.shape.within k o in
    no_common l page w.0 k (apart w.0 w.1) (in_object l page 0 k p.layout (let z = p.layout.some in omega arith) h).0 w.2))

and_none : (a b : Bool) → b ≡ false → (a && b) ≡ false
and_none true b e = e
and_none false b e = refl

and_all : (a b : Bool) → a ≡ true → b ≡ true → (a && b) ≡ true
and_all true b e f = f
and_all false b e f = cc

or_second : (a b : Bool) → b ≡ true → (a || b) ≡ true
or_second true b e = refl
or_second false b e = e

nothing : (o : Option ℕ) → is_some o ≡ false → o ≡ None
nothing (Some x) e = cc
nothing None e = refl

-- of the new superblock the first object is out, and the others are free
pub first_out : (l : Layout) (page : ℕ) (words run words2 : Owned) → IsLayout l → words2 ≡ owned words.region (rest_of (union words.words run.words) (base l page) l.size) → at words2.words (place l page 0) ≡ None
first_out l page words run words2 a e =
    ap (λ (o : Owned). at o.words (place l page 0)) e
    ∙ at-rest_in (union words.words run.words) (base l page) l.size (place l page 0) (subst (λ (z : ℕ). is_within z l.size (place l page 0) ≡ true) (first_place l page) (place_in l page 0 a (let z = a.some in omega arith)))

pub others_in : (l : Layout) (page i : ℕ) (words run words2 : Owned) → IsLayout l → HasJust run.words (base l page) 8192 → words2 ≡ owned words.region (rest_of (union words.words run.words) (base l page) l.size) → 0 < i → i < l.objects → owns words2.words (place l page i) ≡ true
others_in l page i words run words2 a just e pos low =
    ap (λ (o : Owned). owns o.words (place l page i)) e
    ∙ ap is_some (at-rest_out (union words.words run.words) (base l page) l.size (place l page i) (subst (λ (z : ℕ). is_within z l.size (place l page i) ≡ false) (first_place l page) (other_object l page 0 i a (λ s. omega arith))))
    ∙ union_has words.words run.words (base l page) 8192 (place l page i) just (place_covers l page i a low)

-- the words of other superblocks stay
pub outside_new : (l : Layout) (page q k : ℕ) (words run words2 : Owned) → IsLayout l → ((page + 16 ≤ q) ⊎ (q + 16 ≤ page)) → HasJust run.words (base l page) 8192
    → words2 ≡ owned words.region (rest_of (union words.words run.words) (base l page) l.size) → covers l q k ≡ true → at words2.words k ≡ at words.words k
outside_new l page q k words run words2 a apart just e c =
    let out : covers l page k ≡ false = false_from_ne_true (covers l page k) (λ h. no_common l page q k apart h c) in
    ap (λ (o : Owned). at o.words k) e
    ∙ at-rest_out (union words.words run.words) (base l page) l.size k (false_from_ne_true (is_within (base l page) l.size k) (λ h. no_bool (covers l page k) (let w = within_is (base l page) l.size k h in let s = size_small l a in within_true (base l page) 8192 k (omega (arith, w.0)) (omega (arith, w.1))) out))
    ∙ union_else words.words run.words (base l page) 8192 k just out

pub after_add : (l : Layout) (active active2 : Option ℕ) (page : ℕ) (marks marks2 records words control run records2 words2 part : Owned) → IsPool l active marks records words → page + 16 ≤ l.pages
    → HasJust control.words (record_at l page) 112 → HasJust run.words (base l page) 8192 → IsMarked l page true marks marks2 → IsAdmitted l page records words control run records2 words2 part
    → NowActive l page marks.words records.words active active2 → IsPool l active2 marks2 records2 words2
after_add l active active2 page marks marks2 records words control run records2 words2 part p fits just_control just m d now = record {
  records_here = d.region ∙ p.records_here ∙ sym m.region;
  words_here = ap (λ (o : Owned). o.region) d.rest ∙ p.words_here ∙ sym m.region;
  layout = p.layout;
  bits = m.bits;
  shape = shape_added l (mark_of l marks.words) (mark_of l marks2.words) (owns words.words) (owns words2.words) page p.layout p.shape fits apart m.here m.others (keys_new l active page marks records words run words2 p apart just d.rest);
  records_are = records_added l (mark_of l marks.words) (mark_of l marks2.words) (owns records.words) (owns records2.words) page p.records_are m.here m.others (λ q mq. unlike_new q page (apart q mq)) d.keys;
  records_say = λ q mq. dite (ℕ_discrete q page)
      (λ (e : q ≡ page). subst (λ (z : ℕ). IsRecordOf l records2.words words2.words z) (sym e) (record {
        room = l.objects - 1;
        head = 0;
        used = 1;
        room_is = d.room_is;
        head_is = d.head_is;
        used_is = d.used_is;
        lists = new_listed l.objects (place l page) (first_word l words2.words page) (let z = p.layout.some in omega arith) (first_out l page words run words2 p.layout d.rest) (λ i pos low. others_in l page i words run words2 p.layout just d.rest pos low);
      }))
      (λ (n : q ≢ page). let old = sym (m.others q n) ∙ mq in
      book_same l q records.words words.words records2.words words2.words (λ k x y. d.others k (record_out q k (apart q old) x y)) (λ i low. outside_new l page q (place l q i) words run words2 p.layout (apart q old) just d.rest (place_covers l q i p.layout low)) (p.records_say q old));
  active_marked = λ q e. ⊎_elim
      (λ (x : (active2 ≡ Some page) × ((r : ℕ) → mark_of l marks.words r ≡ true → at records.words (record_at l r) ≡ Some 0)). subst (λ (z : ℕ). mark_of l marks2.words z ≡ true) (some_same page q (sym x.0 ∙ e)) m.here)
      (λ (x : (active2 ≡ active) × ((r : ℕ) × (mark_of l marks.words r ≡ true) × HasRoom l records.words r)). let old = p.active_marked q (sym x.0 ∙ e) in m.others q (unlike_new q page (apart q old)) ∙ old)
      now;
  some_active = λ q mq. ⊎_elim
      (λ (x : (active2 ≡ Some page) × ((r : ℕ) → mark_of l marks.words r ≡ true → at records.words (record_at l r) ≡ Some 0)). ap is_some x.0)
      (λ (x : (active2 ≡ active) × ((r : ℕ) × (mark_of l marks.words r ≡ true) × HasRoom l records.words r)). ap is_some x.0 ∙ p.some_active x.1.0 x.1.1)
      now;
  settled = λ q mq. dite (ℕ_discrete q page)
      (λ (e : q ≡ page). inr (0, (let z = p.layout.some in omega arith), subst (λ (z : ℕ). owns words2.words (place l z 0) ≡ false) (sym e) (ap is_some (first_out l page words run words2 p.layout d.rest))))
      (λ (n : q ≢ page). let old = sym (m.others q n) ∙ mq in ⊎_elim
      (λ (a : active ≡ Some q). ⊎_elim
      (λ (x : (active2 ≡ Some page) × ((r : ℕ) → mark_of l marks.words r ≡ true → at records.words (record_at l r) ≡ Some 0)).
      let few : 0 < l.objects = (let z = p.layout.some in omega arith) in
      inr (0, few, same_own q 0 old few ∙ no_room l q 0 records.words words.words (p.records_say q old) (λ h. full_room h.0 (some_same h.0 0 (sym h.1 ∙ x.1 q old)) h.2) few))
      (λ (x : (active2 ≡ active) × ((r : ℕ) × (mark_of l marks.words r ≡ true) × HasRoom l records.words r)). inl (x.0 ∙ a))
      now)
      (λ (a : (j : ℕ) × (j < l.objects) × (owns words.words (place l q j) ≡ false)). inr (a.0, a.1, same_own q a.0 old a.1 ∙ a.2))
      (p.settled q old));
}
  where
    apart : (q : ℕ) → mark_of l marks.words q ≡ true → (page + 16 ≤ q) ⊎ (q + 16 ≤ page)
    apart = apart_new l active page marks records words control p just_control d.apart

    some_same : (x y : ℕ) → Some x ≡ Some y → x ≡ y
    some_same x y e = cc

    full_room : (x : ℕ) → x ≡ 0 → 0 < x → ⊥
    full_room x e h = omega arith

    record_out : (q k : ℕ) → ((page + 16 ≤ q) ⊎ (q + 16 ≤ page)) → record_at l q ≤ k → k < record_at l q + 3 → is_within (record_at l page) 112 k ≡ false
    record_out q k h x y = false_from_ne_true (is_within (record_at l page) 112 k) (λ w. let i = within_is (record_at l page) 112 k w in ⊎_elim (λ (z : page + 16 ≤ q). omega (arith, i.1)) (λ (z : q + 16 ≤ page). omega (arith, i.0)) h)

    same_own : (q i : ℕ) → mark_of l marks.words q ≡ true → i < l.objects → owns words2.words (place l q i) ≡ owns words.words (place l q i)
    same_own q i old low = ap is_some (outside_new l page q (place l q i) words run words2 p.layout (apart q old) just d.rest (place_covers l q i p.layout low))

pub add_legal : (l : Layout) (active active2 : Option ℕ) (page run_at at_word : ℕ) (marks marks2 records words control run records2 words2 part : Owned) → IsPool l active marks records words → page + 16 ≤ l.pages
    → HasJust control.words (record_at l page) 112 → HasJust run.words (base l page) 8192 → IsMarked l page true marks marks2 → IsAdmitted l page records words control run records2 words2 part
    → NowActive l page marks.words records.words active active2 → run_at ≡ base l page → at_word ≡ base l page
    → (((q : ℕ) → mark_of l marks.words q ≡ true → at records.words (record_at l q) ≡ Some 0) → AllLive (state_of l active marks.words words.words))
    → ((q : ℕ) → mark_of l marks.words q ≡ true → HasRoom l records.words q → HasFree (state_of l active marks.words words.words))
    → IsAdd l (state_of l active marks.words words.words) run_at at_word (state_of l active2 marks2.words words2.words)
add_legal l active active2 page run_at at_word marks marks2 records words control run records2 words2 part p fits just_control just m d now e f full free = record {
  page = page;
  index = 0;
  run_is = e;
  at_is = f ∙ sym (first_place l page);
  new = λ i. seen_none l active marks.words words.words page i was_not;
  is_live = seen_there l active2 marks2.words words2.words page 0 m.here fits (let z = p.layout.some in omega arith) ∙ ap (λ (b : Bool). Some (not b)) (ap is_some (first_out l page words run words2 p.layout d.rest));
  others_free = λ i low n. seen_there l active2 marks2.words words2.words page i m.here fits low ∙ ap (λ (b : Bool). Some (not b)) (others_in l page i words run words2 p.layout just d.rest (omega arith) low);
  same = λ q j n. seen_same l active active2 marks.words marks2.words words.words words2.words q j (p.shape.inside q) (m.others q n)
      (λ mq low. ap is_some (outside_new l page q (place l q j) words run words2 p.layout (apart_new l active page marks records words control p just_control d.apart q mq) just d.rest (place_covers l q j p.layout low)));
  active = ⊎_elim
      (λ (x : (active2 ≡ Some page) × ((r : ℕ) → mark_of l marks.words r ≡ true → at records.words (record_at l r) ≡ Some 0)). inl (x.0, full x.1))
      (λ (x : (active2 ≡ active) × ((r : ℕ) × (mark_of l marks.words r ≡ true) × HasRoom l records.words r)). inr (x.0, (λ a. no_bool (mark_of l marks.words page) (p.active_marked page a) was_not), free x.1.0 x.1.1 x.1.2))
      now;
  settled = settled_now l active2 marks2 records2 words2 (after_add l active active2 page marks marks2 records words control run records2 words2 part p fits just_control just m d now);
}
  where
    was_not : mark_of l marks.words page ≡ false
    was_not = false_from_ne_true (mark_of l marks.words page) (λ h. unlike_new page page (apart_new l active page marks records words control p just_control d.apart page h) refl)

pub part_just : (l : Layout) (page : ℕ) (records words control run records2 words2 part : Owned) → IsLayout l → HasJust run.words (base l page) 8192 → IsAdmitted l page records words control run records2 words2 part → HasJust part.words (base l page) l.size
part_just l page records words control run records2 words2 part a just d =
    subst (λ (o : Owned). HasJust o.words (base l page) l.size) (sym d.range)
    (cut_just (union words.words run.words) (base l page) l.size (λ k x y. union_has words.words run.words (base l page) 8192 k just (let s = size_small l a in within_true (base l page) 8192 k x (omega arith))))
