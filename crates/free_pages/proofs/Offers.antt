-- What a run that was granted may be used for: it may be offered again, and is then accepted.
use Rattle.std.proofs.Common.{◌≡◌, ℕ, ◌+◌, ◌*◌, ◌≤◌, Bool, true, false, Option, Some, None, is_some, refl, sym, subst, ◌∙◌, arith}
use Rattle.atomic_table.specs.Seated.{TableId}
use Rattle.region_words.specs.Parts.{Owned}
use Rattle.free_pages.specs.Area.{page_words, HasRecords}
use Rattle.free_pages.specs.Legal.{PagesState, Adds, IsTake, IsGive, IsHandedBack}
use Rattle.free_pages.specs.PagesView.{IsRunOf, MayGive}
use Rattle.free_pages.proofs.Apart.{back_as_before}

-- the records are there just where they were asked for
pub records_flag : (region : TableId) (first pages from n : ℕ) (control : Bool) (out : Option Owned) → HasRecords region first pages from n control out → is_some out ≡ control
records_flag region first pages from n true (Some o) h = refl
records_flag region first pages from n true None h = absurd h
records_flag region first pages from n false (Some o) h = absurd h
records_flag region first pages from n false None h = refl

-- a run of these pages may be given to them, whatever was granted since
pub run_may_give : (region region2 : TableId) (first first2 pages pages2 n place run_pages : ℕ) (control : Bool) (words : Owned) (records : Option Owned) → region2 ≡ region → first2 ≡ first → pages2 ≡ pages
    → IsRunOf region first pages n control place run_pages words records → MayGive region2 first2 pages2 place run_pages words records
run_may_give region region2 first first2 pages pages2 n place run_pages control words records e f g r = record {
  here = r.here ∙ sym e;
  records_are = λ from at_page inside.
      let same : from ≡ r.from = let x = r.place_is in omega arith in
      subst (λ (z : TableId). HasRecords z first2 pages2 from run_pages (is_some records) records) (sym e)
      (subst (λ (z : ℕ). HasRecords region z pages2 from run_pages (is_some records) records) (sym f)
      (subst (λ (z : ℕ). HasRecords region first z from run_pages (is_some records) records) (sym g)
      (subst (λ (z : ℕ). HasRecords region first pages z run_pages (is_some records) records) (sym same)
      (subst (λ (z : ℕ). HasRecords region first pages r.from z (is_some records) records) (sym r.pages_is)
      (subst (λ (z : Bool). HasRecords region first pages r.from n z records) (sym (records_flag region first pages r.from n control records r.records_are)) r.records_are)))));
}

-- a run of pages in front of these may be offered to them
pub other_may_give : (region region2 : TableId) (first first2 pages pages2 n place run_pages : ℕ) (control : Bool) (words : Owned) (records : Option Owned) → region2 ≡ region → first + page_words * pages ≤ first2 → 1 ≤ n
    → IsRunOf region first pages n control place run_pages words records → MayGive region2 first2 pages2 place run_pages words records
other_may_give region region2 first first2 pages pages2 n place run_pages control words records e behind some r = record {
  here = r.here ∙ sym e;
  records_are = λ from at_page inside. absurd (let x = r.place_is in let y = r.inside in omega arith);
}

-- it is accepted
pub accepted : (region : TableId) (first first2 pages n place run_pages : ℕ) (control : Bool) (s t u : PagesState) (words : Owned) (records : Option Owned) → IsTake first s n control place t
    → IsRunOf region first2 pages n control place run_pages words records → IsHandedBack first t place run_pages (is_some records) u → ⊥
accepted region first first2 pages n place run_pages control s t u words records took r back =
    back.none took.from s.granted took.place_is
    (subst (λ (z : ℕ). Adds s.granted t.granted (record { from = took.from; len = z; control = is_some records })) (sym r.pages_is)
    (subst (λ (z : Bool). Adds s.granted t.granted (record { from = took.from; len = n; control = z })) (sym (records_flag region first2 pages r.from n control records r.records_are)) took.adds))

-- and then the granted runs are as before
pub as_before : (region : TableId) (first first2 pages n place run_pages : ℕ) (control : Bool) (s t u : PagesState) (words : Owned) (records : Option Owned) → IsTake first s n control place t
    → IsRunOf region first2 pages n control place run_pages words records → IsGive first t place run_pages (is_some records) u → u ≡ s
as_before region first first2 pages n place run_pages control s t u words records took r give =
    let same : give.from ≡ took.from = let x = give.place_is in let y = took.place_is in omega arith in
    let removes : Adds u.granted t.granted (record { from = took.from; len = n; control = control }) =
    subst (λ (z : ℕ). Adds u.granted t.granted (record { from = z; len = n; control = control })) same
    (subst (λ (z : ℕ). Adds u.granted t.granted (record { from = give.from; len = z; control = control })) r.pages_is
    (subst (λ (z : Bool). Adds u.granted t.granted (record { from = give.from; len = run_pages; control = z })) (records_flag region first2 pages r.from n control records r.records_are) give.removes)) in
    state_is u s (give.pages ∙ took.pages) (back_as_before t.pages s.granted t.granted u.granted (record { from = took.from; len = n; control = control }) took.apart took.adds removes)
  where
    state_is : (u s : PagesState) → u.pages ≡ s.pages → u.granted ≡ s.granted → u ≡ s
    state_is u s e f = λ i. record { pages = e i; granted = f i }
