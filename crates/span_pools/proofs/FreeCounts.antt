-- How many objects of a pool are free: what a call does to the sum over its superblocks.
use Rattle.std.proofs.Common.{◌≡◌, ◌≢◌, ℕ, zero, suc, ◌+◌, ◌-◌, ◌*◌, ◌<◌, ◌≤◌, ◌⊎◌, inl, inr, ⊎_elim, Bool, true, false, cond, Option, Some, unwrap_or, refl, sym, ap, subst, ◌∙◌, arith}
use mathlib.Core.Logic.{dite}
use native.Mathlib.Decide.{ℕ_discrete}
use Rattle.std.proofs.lemmas.Bool.{cases_lt, false_from_ne_true}
use Rattle.word_map.specs.WordMap.{WordMap, at, HasJust, is_within}
use Rattle.word_map.proofs.Maps.{at-rest_out, within_is}
use Rattle.region_words.specs.Parts.{Owned}
use Rattle.span_pools.specs.declared.layout.Layout.{Layout}
use Rattle.span_pools.specs.Places.{record_at}
use Rattle.span_pools.specs.View.{mark_of, owns, room_at, total, free_objects, HasRoom, IsMarked, IsTakenOut, IsPutBack, IsAdmitted, IsReleased, IsPool}
use Rattle.span_pools.proofs.FreeLists.{room_most}
use Rattle.span_pools.proofs.Covers.{objects_small, parted}
use Rattle.span_pools.proofs.Adds.{NowActive, apart_new, unlike_new}

total_same : (f g : ℕ → ℕ) (n : ℕ) → ((k : ℕ) → k < n → g k ≡ f k) → total g n ≡ total f n
total_same f g zero h = refl
total_same f g (suc n) h = let a = h n (omega arith) in let b = total_same f g n (λ k l. h k (omega arith)) in omega (arith, a, b)

-- a sum of which one number changed
pub total_change : (f g : ℕ → ℕ) (n p : ℕ) → p < n → ((k : ℕ) → k ≢ p → g k ≡ f k) → total g n + f p ≡ total f n + g p
total_change f g zero p low same = absurd (omega arith)
total_change f g (suc n) p low same = dite (ℕ_discrete n p)
    (λ (e : n ≡ p). let a = total_same f g n (λ k l. same k (λ s. omega arith)) in let b : f n ≡ f p = ap f e in let d : g n ≡ g p = ap g e in omega (arith, a, b, d))
    (λ (m : n ≢ p). let a = total_change f g n p (omega arith) same in let b = same n m in omega (arith, a, b))

total_zero : (f : ℕ → ℕ) (n : ℕ) → ((k : ℕ) → f k ≡ 0) → total f n ≡ 0
total_zero f zero h = refl
total_zero f (suc n) h = let a = h n in let b = total_zero f n h in omega (arith, a, b)

total_none : (f : ℕ → ℕ) (n k : ℕ) → total f n ≡ 0 → k < n → f k ≡ 0
total_none f zero k e low = absurd (omega arith)
total_none f (suc n) k e low = dite (ℕ_discrete k n)
    (λ (s : k ≡ n). let b : f k ≡ f n = ap f s in omega (arith, b))
    (λ (m : k ≢ n). total_none f n k (omega arith) (omega arith))

total_some : (f : ℕ → ℕ) (n : ℕ) → 0 < total f n → (k : ℕ) × (k < n) × (0 < f k)
total_some f zero h = absurd (omega arith)
total_some f (suc n) h = ⊎_elim
    (λ (a : 0 < f n). (n, omega arith, a))
    (λ (a : f n ≤ 0). let r = total_some f n (omega arith) in (r.0, omega (arith, r.1), r.2))
    (cases_lt 0 (f n))

total_most : (f : ℕ → ℕ) (n b : ℕ) → ((k : ℕ) → f k ≤ b) → total f n ≤ b * n
total_most f zero b h = omega arith
total_most f (suc n) b h = let a = h n in let d = total_most f n b h in more (f n) (total f n) b n a d
  where
    more : (x t b n : ℕ) → x ≤ b → t ≤ b * n → x + t ≤ b * suc n
    more x t b n h k = omega arith

-- by what its record says
pub room_marked : (l : Layout) (marks records : WordMap) (p x : ℕ) → mark_of l marks p ≡ true → at records (record_at l p) ≡ Some x → room_at l marks records p ≡ x
room_marked l marks records p x m e =
    ap (λ (b : Bool). cond {A = ℕ} b (unwrap_or (at records (record_at l p)) 0) 0) m ∙ ap (λ (o : Option ℕ). unwrap_or o 0) e

pub room_unmarked : (l : Layout) (marks records : WordMap) (p : ℕ) → mark_of l marks p ≡ false → room_at l marks records p ≡ 0
room_unmarked l marks records p m = ap (λ (b : Bool). cond {A = ℕ} b (unwrap_or (at records (record_at l p)) 0) 0) m

-- the bit and the record of a page stayed
pub room_stays : (l : Layout) (marks marks2 records records2 : WordMap) (q : ℕ) → mark_of l marks2 q ≡ mark_of l marks q → (mark_of l marks q ≡ true → at records2 (record_at l q) ≡ at records (record_at l q))
    → room_at l marks2 records2 q ≡ room_at l marks records q
room_stays l marks marks2 records records2 q m same = go (mark_of l marks q) refl
  where
    go : (b : Bool) → mark_of l marks q ≡ b → room_at l marks2 records2 q ≡ room_at l marks records q
    go true e = ap (λ (b : Bool). cond {A = ℕ} b (unwrap_or (at records2 (record_at l q)) 0) 0) m ∙ ap (λ (o : Option ℕ). cond {A = ℕ} (mark_of l marks q) (unwrap_or o 0) 0) (same e)
    go false e = room_unmarked l marks2 records2 q (m ∙ e) ∙ sym (room_unmarked l marks records q e)

pub unlike_record : (l : Layout) (p q : ℕ) → q ≢ p → (record_at l q < record_at l p) ⊎ (record_at l p + 7 ≤ record_at l q)
unlike_record l p q n = ⊎_elim (λ (h : q < p). inl (omega arith)) (λ (h : p ≤ q). inr (omega arith)) (cases_lt q p)

pub apart_record : (l : Layout) (p q : ℕ) → ((p + 16 ≤ q) ⊎ (q + 16 ≤ p)) → is_within (record_at l p) 112 (record_at l q) ≡ false
apart_record l p q h = false_from_ne_true (is_within (record_at l p) 112 (record_at l q)) (λ w.
    let i = within_is (record_at l p) 112 (record_at l q) w in ⊎_elim (λ (z : p + 16 ≤ q). omega (arith, i.1)) (λ (z : q + 16 ≤ p). omega (arith, i.0)) h)

-- a pool without superblocks has none
pub count_empty : (l : Layout) (marks records : WordMap) → ((p : ℕ) → mark_of l marks p ≡ false) → free_objects l marks records ≡ 0
count_empty l marks records none = total_zero (room_at l marks records) l.pages (λ p. room_unmarked l marks records p (none p))

room_few : (l : Layout) (active : Option ℕ) (marks records words : Owned) → IsPool l active marks records words → (q : ℕ) → room_at l marks.words records.words q ≤ 8192
room_few l active marks records words p q = go (mark_of l marks.words q) refl
  where
    small : (a b n : ℕ) → a ≡ b → b ≤ n → n ≤ 8192 → a ≤ 8192
    small a b n e h k = omega arith

    go : (b : Bool) → mark_of l marks.words q ≡ b → room_at l marks.words records.words q ≤ 8192
    go true m = let r = p.records_say q m in small (room_at l marks.words records.words q) r.room l.objects (room_marked l marks.words records.words q r.room m r.room_is) (room_most _ _ _ _ _ _ r.lists) (objects_small l p.layout)
    go false m = small (room_at l marks.words records.words q) 0 0 (room_unmarked l marks.words records.words q m) (omega arith) (omega arith)

-- no pool has 2^31 free objects
pub count_few : (l : Layout) (active : Option ℕ) (marks records words : Owned) → IsPool l active marks records words → free_objects l marks.words records.words < 2147483648
count_few l active marks records words p =
    let h = total_most (room_at l marks.words records.words) l.pages 8192 (room_few l active marks records words p) in
    let low = p.layout.low in
    omega (arith, h, low)

-- where it is 0, no superblock has a free object
pub count_none : (l : Layout) (active : Option ℕ) (marks records words : Owned) → IsPool l active marks records words → free_objects l marks.words records.words ≡ 0
    → (q : ℕ) → mark_of l marks.words q ≡ true → at records.words (record_at l q) ≡ Some 0
count_none l active marks records words p none q m =
    let r = p.records_say q m in
    let inside : q < l.pages = (let i = p.shape.inside q m in omega arith) in
    r.room_is ∙ ap Some (sym (room_marked l marks.words records.words q r.room m r.room_is) ∙ total_none (room_at l marks.words records.words) l.pages q none inside)

-- where it is more, one has
pub count_some : (l : Layout) (active : Option ℕ) (marks records words : Owned) → IsPool l active marks records words → 0 < free_objects l marks.words records.words
    → (q : ℕ) × (mark_of l marks.words q ≡ true) × HasRoom l records.words q
count_some l active marks records words p some =
    let t = total_some (room_at l marks.words records.words) l.pages some in
    go t.0 t.2 (mark_of l marks.words t.0) refl
  where
    go : (q : ℕ) → 0 < room_at l marks.words records.words q → (b : Bool) → mark_of l marks.words q ≡ b → (q : ℕ) × (mark_of l marks.words q ≡ true) × HasRoom l records.words q
    go q h true m = let r = p.records_say q m in (q, m, (r.room, r.room_is, subst (λ (z : ℕ). 0 < z) (room_marked l marks.words records.words q r.room m r.room_is) h))
    go q h false m = absurd (let e = room_unmarked l marks.words records.words q m in omega (arith, e))

-- which superblock is active after a new one came in, by that number
pub count_active : (l : Layout) (active after : Option ℕ) (page free : ℕ) (marks records words : Owned) → IsPool l active marks records words → free ≡ free_objects l marks.words records.words
    → (free ≡ 0 → after ≡ Some page) → (0 < free → after ≡ active) → NowActive l page marks.words records.words active after
count_active l active after page free marks records words p e none some = ⊎_elim
    (λ (h : 0 < free). inr (some h, count_some l active marks records words p (subst (λ (z : ℕ). 0 < z) e h)))
    (λ (h : free ≤ 0). let zero : free ≡ 0 = omega arith in inl (none zero, count_none l active marks records words p (sym e ∙ zero)))
    (cases_lt 0 free)

-- an object less is free
pub count_alloc : (l : Layout) (active : Option ℕ) (page at_word : ℕ) (marks records words records2 words2 part : Owned) → IsPool l active marks records words → mark_of l marks.words page ≡ true → HasRoom l records.words page
    → IsTakenOut l page records words records2 words2 part at_word → free_objects l marks.words records2.words + 1 ≡ free_objects l marks.words records.words
count_alloc l active page at_word marks records words records2 words2 part p m room t =
    let change = total_change (room_at l marks.words records.words) (room_at l marks.words records2.words) l.pages page (let i = p.shape.inside page m in omega arith)
    (λ q n. room_stays l marks.words marks.words records.words records2.words q refl (λ _. t.same.others (record_at l q) (unlike_record l page q n))) in
    let before = room_marked l marks.words records.words page room.0 m room.1 in
    let after = room_marked l marks.words records2.words page (room.0 - 1) m (t.less room.0 room.1) in
    let some = room.2 in
    omega (arith, change, before, after, some)

-- one more is
pub count_free : (l : Layout) (active : Option ℕ) (page at_word : ℕ) (marks records words records2 words2 : Owned) → IsPool l active marks records words → mark_of l marks.words page ≡ true
    → IsPutBack l page records words records2 words2 at_word → free_objects l marks.words records2.words ≡ free_objects l marks.words records.words + 1
count_free l active page at_word marks records words records2 words2 p m t =
    let r = p.records_say page m in
    let change = total_change (room_at l marks.words records.words) (room_at l marks.words records2.words) l.pages page (let i = p.shape.inside page m in omega arith)
    (λ q n. room_stays l marks.words marks.words records.words records2.words q refl (λ _. t.same.others (record_at l q) (unlike_record l page q n))) in
    let before = room_marked l marks.words records.words page r.room m r.room_is in
    let after = room_marked l marks.words records2.words page (r.room + 1) m (t.more r.room r.room_is) in
    omega (arith, change, before, after)

-- all objects of a new superblock but one are
pub count_add : (l : Layout) (active : Option ℕ) (page : ℕ) (marks marks2 records words control run records2 words2 part : Owned) → IsPool l active marks records words → page + 16 ≤ l.pages
    → HasJust control.words (record_at l page) 112 → IsMarked l page true marks marks2 → IsAdmitted l page records words control run records2 words2 part
    → free_objects l marks2.words records2.words ≡ free_objects l marks.words records.words + (l.objects - 1)
count_add l active page marks marks2 records words control run records2 words2 part p fits just m d =
    let apart = apart_new l active page marks records words control p just d.apart in
    let was_not : mark_of l marks.words page ≡ false = false_from_ne_true (mark_of l marks.words page) (λ h. unlike_new page page (apart page h) refl) in
    let change = total_change (room_at l marks.words records.words) (room_at l marks2.words records2.words) l.pages page (omega arith)
    (λ q n. room_stays l marks.words marks2.words records.words records2.words q (m.others q n) (λ h. d.others (record_at l q) (apart_record l page q (apart q h)))) in
    let before = room_unmarked l marks.words records.words page was_not in
    let after = room_marked l marks2.words records2.words page (l.objects - 1) m.here d.room_is in
    omega (arith, change, before, after)

-- those of a superblock that went out are none of the pool's
pub count_emptied : (l : Layout) (active : Option ℕ) (page index at_word room : ℕ) (marks marks2 records words part records2 words2 run control : Owned) → IsPool l active marks records words → mark_of l marks.words page ≡ true
    → at records.words (record_at l page) ≡ Some room → IsMarked l page false marks marks2 → IsReleased l page records words part records2 words2 run control
    → free_objects l marks2.words records2.words + room ≡ free_objects l marks.words records.words
count_emptied l active page index at_word room marks marks2 records words part records2 words2 run control p m room_is g d =
    let change = total_change (room_at l marks.words records.words) (room_at l marks2.words records2.words) l.pages page (let i = p.shape.inside page m in omega arith)
    (λ q n. room_stays l marks.words marks2.words records.words records2.words q (g.others q n) (λ h.
    ap (λ (o : Owned). at o.words (record_at l q)) d.rest_records
    ∙ at-rest_out records.words (record_at l page) 112 (record_at l q) (apart_record l page q (parted l (mark_of l marks.words) (owns words.words) page q p.shape m h (λ e. n (sym e)))))) in
    let before = room_marked l marks.words records.words page room m room_is in
    let after = room_unmarked l marks2.words records2.words page g.here in
    omega (arith, change, before, after)
