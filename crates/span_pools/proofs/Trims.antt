-- What a pool is after its active superblock went out, of which each object was free.
use Rattle.std.proofs.Common.{◌≡◌, ◌≢◌, ℕ, ◌+◌, ◌-◌, ◌<◌, ◌≤◌, ⊎_elim, Bool, true, false, not, ◌||◌, Option, Some, None, is_some, IsSome, IfSome, IfNone, refl, sym, ap, subst, ◌∙◌, arith}
use Rattle.std.proofs.lemmas.Bool.{cases_lt}
use Rattle.word_map.specs.WordMap.{WordMap, at, HasJust, Disjoint, is_within}
use Rattle.word_map.proofs.Maps.{at-rest_out}
use Rattle.region_words.specs.Parts.{Owned}
use Rattle.span_pools.specs.declared.layout.Layout.{Layout}
use Rattle.span_pools.specs.Places.{base, place, record_at, covers}
use Rattle.span_pools.specs.Legal.{PoolState, HasLive, object_in, IsTrim, IsUntrimmed}
use Rattle.span_pools.specs.View.{mark_of, owns, first_word, free_objects, state_of, IsSpare, IsMarked, IsTakenOut, IsReleased, IsPool}
use Rattle.span_pools.proofs.Counts.{each_free}
use Rattle.span_pools.proofs.FreeLists.{has_live, room_most}
use Rattle.span_pools.proofs.Covers.{place_covers, parted}
use Rattle.span_pools.proofs.RecordStores.{some_same}
use Rattle.span_pools.proofs.Views.{seen_there, seen_past, seen_none}
use Rattle.span_pools.proofs.Pools.{no_bool, after_alloc, chunk_just, elsewhere, seen_same, settled_now}
use Rattle.span_pools.proofs.FreeCounts.{count_alloc, count_emptied}
use Rattle.span_pools.proofs.Spares.{spare_emptied, spare_taken}
use Rattle.span_pools.proofs.Frees.{IsLast, IsNextActive, after_out, is_last, last_whole, outside_out, run_just}

-- The active superblock gave one of its objects, all of which were free, and went out with it; `active2` is the page of
-- another superblock, if there is one
pub record IsTrimmed (l : Layout) (active active2 : Option ℕ) (page at_word : ℕ) (marks marks2 records words records1 words1 part records2 words2 run control : Owned) : Type 0 where
  pub pool : IsPool l active marks records words
  pub here : active ≡ Some page
  pub full : at records.words (record_at l page) ≡ Some l.objects
  pub took : IsTakenOut l page records words records1 words1 part at_word
  pub mark : IsMarked l page false marks marks2
  pub out : IsReleased l page records1 words1 part records2 words2 run control
  pub next : IfSome active2 (λ q. mark_of l marks2.words q ≡ true)
  pub none : IfNone active2 ((q : ℕ) → q < l.pages → mark_of l marks2.words q ≡ false)

-- an object of a pool's active superblock that is out
pub took_one : (l : Layout) (active : Option ℕ) (page at_word : ℕ) (marks records words records1 words1 part : Owned) → IsPool l active marks records words → active ≡ Some page → IsTakenOut l page records words records1 words1 part at_word
    → IsPool l (Some page) marks records1 words1
took_one l active page at_word marks records words records1 words1 part p here t =
    after_alloc l active page at_word marks records words records1 words1 part p (p.active_marked page here) (λ q e _. some_same q page (sym e ∙ here)) t

-- it is the last live one, if all were free
pub took_last : (l : Layout) (active : Option ℕ) (page at_word : ℕ) (marks records words records1 words1 part : Owned) → IsPool l active marks records words → active ≡ Some page → at records.words (record_at l page) ≡ Some l.objects
    → (t : IsTakenOut l page records words records1 words1 part at_word) → Disjoint words1.words part.words → IsLast l page t.index at_word records1 words1 part
took_last l active page at_word marks records words records1 words1 part p here full t apart =
    is_last l page t.index at_word (l.objects - 1) records1 words1 part t.low t.at_is
    (chunk_just l active page at_word marks records words records1 words1 part p (p.active_marked page here) t).1
    (t.less l.objects full) (let z = p.layout.some in omega arith) apart

-- all words of the superblock are there then
pub whole_out : (l : Layout) (active : Option ℕ) (page at_word k : ℕ) (marks records words records1 words1 part : Owned) → IsPool l active marks records words → active ≡ Some page → at records.words (record_at l page) ≡ Some l.objects
    → IsTakenOut l page records words records1 words1 part at_word → Disjoint words1.words part.words → covers l page k ≡ true → (owns words1.words k || owns part.words k) ≡ true
whole_out l active page at_word k marks records words records1 words1 part p here full t apart c =
    last_whole l (Some page) page t.index at_word k marks records1 words1 part (took_one l active page at_word marks records words records1 words1 part p here t) (p.active_marked page here)
    (took_last l active page at_word marks records words records1 words1 part p here full t apart) c

there_in : (o : Option ℕ) (P : ℕ → Type 0) → IfSome o P → (q : ℕ) → o ≡ Some q → P q
there_in (Some x) P h q e = subst P (some_same x q e) h
there_in None P h q e = absurd (cc)

some_in : (o : Option ℕ) (P : ℕ → Type 0) → IfNone o ((q : ℕ) → P q → ⊥) → (q : ℕ) → P q → IsSome o
some_in (Some x) P h q e = refl
some_in None P h q e = absurd (h q e)

module _ {l : Layout} {active active2 : Option ℕ} {page at_word : ℕ} {marks marks2 records words records1 words1 part records2 words2 run control : Owned} (h : IsTrimmed l active active2 page at_word marks marks2 records words records1 words1 part records2 words2 run control) where
  marked : mark_of l marks.words page ≡ true
  marked = h.pool.active_marked page h.here

  mid : IsPool l (Some page) marks records1 words1
  mid = took_one l active page at_word marks records words records1 words1 part h.pool h.here h.took

  last : IsLast l page h.took.index at_word records1 words1 part
  last = took_last l active page at_word marks records words records1 words1 part h.pool h.here h.full h.took h.out.apart

  unlike : (q : ℕ) → mark_of l marks2.words q ≡ true → q ≢ page
  unlike q mq e = no_bool (mark_of l marks2.words page) (ap (mark_of l marks2.words) (sym e) ∙ mq) h.mark.here

  was : (q : ℕ) → mark_of l marks2.words q ≡ true → mark_of l marks.words q ≡ true
  was q mq = sym (h.mark.others q (unlike q mq)) ∙ mq

  if_none : (o : Option ℕ) → IfNone o ((q : ℕ) → q < l.pages → mark_of l marks2.words q ≡ false) → IfNone o ((q : ℕ) → mark_of l marks2.words q ≡ true → ⊥)
  if_none (Some x) k = tt
  if_none None k = λ q mq. no_bool (mark_of l marks2.words q) mq (k q (let z = h.pool.shape.inside q (was q mq) in omega (arith, z)))

  next_active : IsNextActive l page (Some page) active2 marks2.words
  next_active = record {
    there = λ q e. there_in active2 (λ z. mark_of l marks2.words z ≡ true) h.next q e;
    some = λ q mq. some_in active2 (λ z. mark_of l marks2.words z ≡ true) (if_none active2 h.none) q mq;
    stays = λ q e n. absurd (n (sym (some_same page q e)));
  }

  pub trim_pool : IsPool l active2 marks2 records2 words2
  trim_pool = after_out l (Some page) active2 page h.took.index at_word marks marks2 records1 words1 part records2 words2 run control mid marked last next_active h.mark h.out

  pub trim_just : HasJust run.words (base l page) 8192 × HasJust control.words (record_at l page) 112
  trim_just = run_just l (Some page) page h.took.index at_word marks records1 words1 part records2 words2 run control mid marked last h.out

  pub trim_count : free_objects l marks2.words records2.words + l.objects ≡ free_objects l marks.words records.words
  trim_count =
      let some = h.pool.layout.some in
      let one = count_alloc l active page at_word marks records words records1 words1 part h.pool marked (l.objects, h.full, omega (arith, some)) h.took in
      let all = count_emptied l (Some page) page h.took.index at_word (l.objects - 1) marks marks2 records1 words1 part records2 words2 run control mid marked (h.took.less l.objects h.full) h.mark h.out in
      omega (arith, some, one, all)

  pub trim_spare : (spare spare2 : Option ℕ) → IsSpare l spare marks.words records.words → ((p : ℕ) → spare2 ≡ Some p → (spare ≡ Some p) × (p ≢ page)) → IsSpare l spare2 marks2.words records2.words
  trim_spare spare spare2 is other =
      spare_emptied l (Some page) spare2 spare2 page marks marks2 records1 words1 part records2 words2 run control mid marked
      (spare_taken l spare spare2 page at_word marks.words records words records1 words1 part is other h.took)
      (λ p e. (e, (other p e).1)) h.mark h.out

  all_free : (i : ℕ) → i < l.objects → owns words.words (place l page i) ≡ true
  all_free i low =
      let b = h.pool.records_say page marked in
      each_free l.objects i (λ j. is_some (first_word l words.words page j)) (sym b.lists.count ∙ some_same b.room l.objects (sym b.room_is ∙ h.full)) low

  none_live : (i : ℕ) → object_in (state_of l active marks.words words.words) page i ≢ Some true
  none_live i live = ⊎_elim
      (λ (low : i < l.objects). differ (sym (seen_there l active marks.words words.words page i marked (h.pool.shape.inside page marked) low ∙ ap (λ (b : Bool). Some (not b)) (all_free i low)) ∙ live))
      (λ (many : l.objects ≤ i). nothing (object_in (state_of l active marks.words words.words) page i) (seen_past l active marks.words words.words page i marked (h.pool.shape.inside page marked) many) live)
      (cases_lt i l.objects)
    where
      differ : Some false ≡ Some true → ⊥
      differ x = cc

      nothing : (o : Option Bool) → o ≡ None → o ≡ Some true → ⊥
      nothing o e x = cc

  stays : (q j : ℕ) → q ≢ page → mark_of l marks.words q ≡ true → j < l.objects → owns words2.words (place l q j) ≡ owns words.words (place l q j)
  stays q j n mq low =
      ap is_some (outside_out l page q h.took.index at_word (place l q j) records1 words1 part records2 words2 run control h.pool.layout last h.out
      (parted l (mark_of l marks.words) (owns words.words) page q h.pool.shape marked mq (λ e. n (sym e))) (place_covers l q j h.pool.layout low))
      ∙ ap (λ (o : Owned). owns o.words (place l q j)) h.took.rest
      ∙ ap is_some (at-rest_out words.words at_word l.size (place l q j)
      (subst (λ (z : ℕ). is_within z l.size (place l q j) ≡ false) (sym h.took.at_is) (elsewhere l (mark_of l marks.words) (owns words.words) page h.took.index q j h.pool.layout h.pool.shape marked mq (λ e. n (sym e)) h.took.low low)))

  pub trim_legal : (run_at : ℕ) → run_at ≡ base l page → IsTrim l (state_of l active marks.words words.words) run_at (state_of l active2 marks2.words words2.words)
  trim_legal run_at e = record {
    page = page;
    run_is = e;
    was_active = h.here;
    none_live = none_live;
    gone = λ i. seen_none l active2 marks2.words words2.words page i h.mark.here;
    same = λ q j n. seen_same l active active2 marks.words marks2.words words.words words2.words q j (h.pool.shape.inside q) (h.mark.others q n) (λ mq low. stays q j n mq low);
    settled = settled_now l active2 marks2 records2 words2 trim_pool;
  }

-- where an object of the active superblock is live, nothing goes out
pub untrimmed : (l : Layout) (active : Option ℕ) (page room : ℕ) (marks records words : Owned) (after : PoolState) → IsPool l active marks records words → active ≡ Some page → at records.words (record_at l page) ≡ Some room → room < l.objects
    → after ≡ state_of l active marks.words words.words → IsUntrimmed (state_of l active marks.words words.words) after
untrimmed l active page room marks records words after p here room_is less e = record {
  live = λ q a. subst (λ (z : ℕ). HasLive (state_of l active marks.words words.words) z) (some_same page q (sym here ∙ a)) (
    live.0,
    seen_there l active marks.words words.words page live.0 marked (p.shape.inside page marked) live.1 ∙ ap (λ (b : Bool). Some (not b)) live.2,
  );
  same = e;
}
  where
    marked : mark_of l marks.words page ≡ true
    marked = p.active_marked page here

    live : (i : ℕ) × (i < l.objects) × (owns words.words (place l page i) ≡ false)
    live =
        let b = p.records_say page marked in
        has_live l.objects (place l page) (first_word l words.words page) b.room b.head b.used b.lists (subst (λ (z : ℕ). z < l.objects) (some_same room b.room (sym room_is ∙ b.room_is)) less)

-- nothing goes out of a pool without an active superblock
pub none_active : (l : Layout) (active : Option ℕ) (marks words : WordMap) → ((p : ℕ) → active ≡ Some p → ⊥) → IsUntrimmed (state_of l active marks words) (state_of l active marks words)
none_active l active marks words none = record { live = λ q a. absurd (none q a); same = refl }

-- as many objects are free as there are, if the record says so many
pub full_room : (l : Layout) (active : Option ℕ) (page room : ℕ) (marks records words : Owned) → IsPool l active marks records words → active ≡ Some page → at records.words (record_at l page) ≡ Some room → l.objects ≤ room → room ≡ l.objects
full_room l active page room marks records words p here room_is all =
    let b = p.records_say page (p.active_marked page here) in
    same b.room room l.objects (some_same b.room room (sym b.room_is ∙ room_is)) (room_most l.objects (place l page) (first_word l words.words page) b.room b.head b.used b.lists) all
  where
    same : (a b n : ℕ) → a ≡ b → a ≤ n → n ≤ b → b ≡ n
    same a b n e h k = omega arith
