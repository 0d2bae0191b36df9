-- The superblock that a pool remembers as spare has a free object: what each call leaves of that.
use Rattle.std.proofs.Common.{◌≡◌, ◌≢◌, ℕ, ◌+◌, ◌<◌, ◌≤◌, ◌⊎◌, ⊎_elim, Bool, true, false, Option, Some, None, refl, sym, ap, subst, ◌∙◌, arith}
use mathlib.Core.Logic.{dite}
use native.Mathlib.Decide.{ℕ_discrete}
use Rattle.word_map.specs.WordMap.{WordMap, at, HasJust}
use Rattle.word_map.proofs.Maps.{at-rest_out}
use Rattle.region_words.specs.Parts.{Owned}
use Rattle.span_pools.specs.declared.layout.Layout.{Layout}
use Rattle.span_pools.specs.Places.{record_at}
use Rattle.span_pools.specs.View.{mark_of, owns, room_at, HasRoom, IsSpare, IsMarked, IsTakenOut, IsPutBack, IsAdmitted, IsReleased, IsPool}
use Rattle.span_pools.proofs.Adds.{apart_new, unlike_new}
use Rattle.span_pools.proofs.Covers.{parted}
use Rattle.span_pools.proofs.FreeCounts.{apart_record, room_marked, room_stays, room_unmarked, unlike_record}

-- nothing is remembered
pub spare_none : (l : Layout) (marks records : WordMap) → IsSpare l None marks records
spare_none l marks records p e = let no : Some p ≡ None = sym e in absurd (cc)

-- what is remembered is one of the pool's superblocks, and its record says that an object is free
pub spare_room : (l : Layout) (active spare : Option ℕ) (marks records words : Owned) → IsPool l active marks records words → IsSpare l spare marks.words records.words
    → (p : ℕ) → spare ≡ Some p → (mark_of l marks.words p ≡ true) × HasRoom l records.words p
spare_room l active spare marks records words pool is p e = go (mark_of l marks.words p) refl
  where
    go : (b : Bool) → mark_of l marks.words p ≡ b → (mark_of l marks.words p ≡ true) × HasRoom l records.words p
    go true m = let r = pool.records_say p m in (m, (r.room, r.room_is, subst (λ (z : ℕ). 0 < z) (room_marked l marks.words records.words p r.room m r.room_is) (is p e)))
    go false m = absurd (let none = room_unmarked l marks.words records.words p m in let some = is p e in omega (arith, none, some))

-- an object of a page went out
pub spare_taken : (l : Layout) (spare spare2 : Option ℕ) (page at_word : ℕ) (marks : WordMap) (records words records2 words2 part : Owned) → IsSpare l spare marks records.words → ((p : ℕ) → spare2 ≡ Some p → (spare ≡ Some p) × (p ≢ page))
    → IsTakenOut l page records words records2 words2 part at_word → IsSpare l spare2 marks records2.words
spare_taken l spare spare2 page at_word marks records words records2 words2 part is other t p e =
    let o = other p e in
    subst (λ (z : ℕ). 0 < z) (sym (room_stays l marks marks records.words records2.words p refl (λ _. t.same.others (record_at l p) (unlike_record l page p o.1)))) (is p o.0)

-- an object of a page came back
pub spare_freed : (l : Layout) (active spare spare2 : Option ℕ) (page at_word : ℕ) (marks records words records2 words2 : Owned) → IsPool l active marks records words → mark_of l marks.words page ≡ true → IsSpare l spare marks.words records.words
    → ((p : ℕ) → spare2 ≡ Some p → (spare ≡ Some p) ⊎ (p ≡ page)) → IsPutBack l page records words records2 words2 at_word → IsSpare l spare2 marks.words records2.words
spare_freed l active spare spare2 page at_word marks records words records2 words2 pool m is with t p e = dite (ℕ_discrete p page)
    (λ same. let r = pool.records_say page m in let now = room_marked l marks.words records2.words page (r.room + 1) m (t.more r.room r.room_is) in subst (λ (z : ℕ). 0 < room_at l marks.words records2.words z) (sym same) (omega (arith, now)))
    (λ ne. ⊎_elim
    (λ (was : spare ≡ Some p). subst (λ (z : ℕ). 0 < z) (sym (room_stays l marks.words marks.words records.words records2.words p refl (λ _. t.same.others (record_at l p) (unlike_record l page p ne)))) (is p was))
    (λ (same : p ≡ page). absurd (ne same))
    (with p e))

-- a superblock came in
pub spare_added : (l : Layout) (active spare : Option ℕ) (page : ℕ) (marks marks2 records words control run records2 words2 part : Owned) → IsPool l active marks records words → IsSpare l spare marks.words records.words
    → HasJust control.words (record_at l page) 112 → IsMarked l page true marks marks2 → IsAdmitted l page records words control run records2 words2 part → IsSpare l spare marks2.words records2.words
spare_added l active spare page marks marks2 records words control run records2 words2 part pool is just m d p e =
    let apart = apart_new l active page marks records words control pool just d.apart in
    let here = spare_room l active spare marks records words pool is p e in
    let ne : p ≢ page = λ same. unlike_new page page (subst (λ (z : ℕ). (page + 16 ≤ z) ⊎ (z + 16 ≤ page)) same (apart p here.0)) refl in
    subst (λ (z : ℕ). 0 < z) (sym (room_stays l marks.words marks2.words records.words records2.words p (m.others p ne) (λ h. d.others (record_at l p) (apart_record l page p (apart p h))))) (is p e)

-- a superblock went out
pub spare_emptied : (l : Layout) (active spare spare2 : Option ℕ) (page : ℕ) (marks marks2 records words part records2 words2 run control : Owned) → IsPool l active marks records words → mark_of l marks.words page ≡ true → IsSpare l spare marks.words records.words
    → ((p : ℕ) → spare2 ≡ Some p → (spare ≡ Some p) × (p ≢ page)) → IsMarked l page false marks marks2 → IsReleased l page records words part records2 words2 run control → IsSpare l spare2 marks2.words records2.words
spare_emptied l active spare spare2 page marks marks2 records words part records2 words2 run control pool m is other g d p e =
    let o = other p e in
    subst (λ (z : ℕ). 0 < z) (sym (room_stays l marks.words marks2.words records.words records2.words p (g.others p o.1) (λ h.
    ap (λ (x : Owned). at x.words (record_at l p)) d.rest_records
    ∙ at-rest_out records.words (record_at l page) 112 (record_at l p) (apart_record l page p (parted l (mark_of l marks.words) (owns words.words) page p pool.shape m h (λ s. o.1 (sym s))))))) (is p o.0)
