-- What is kept after a run is granted.
use Rattle.std.proofs.Common.{◌≡◌, ℕ, ◌+◌, ◌*◌, ◌<◌, ◌≤◌, Bool, true, false, List, Option, is_some, refl, sym, ap, subst, ◌∙◌, arith}
use Rattle.word_map.specs.WordMap.{at, rest_of, range_of}
use Rattle.region_words.specs.Parts.{Owned, owned}
use Rattle.word_map.specs.WordMap.{HasJust}
use Rattle.free_pages.specs.Legal.{Granted, is_taken, is_recorded, IsFree, Adds, IsTake}
use Rattle.free_pages.specs.Runs.{IsRuns, granted_in, run_word}
use Rattle.free_pages.proofs.Best.{free_run}
use Rattle.free_pages.specs.Area.{HasRecords, records_at}
use Rattle.free_pages.specs.PagesView.{IsPages, IsRunOf, HasKept, SplitsOff, MaySplit}
use Rattle.free_pages.proofs.Apart.{granted_apart}
use Rattle.free_pages.proofs.Keys.{word_of_page, word_of_record, linear_page, linear_record, kept_less, kept_same, just_run, has_run, taken_more, recorded_more, recorded_free}

pub free_shorter : (pages q n len : ℕ) (gs : List Granted) → n ≤ len → IsFree pages gs q len → IsFree pages gs q n
free_shorter pages q n len gs h f = record { inside = omega (arith, f.inside); free = λ k a b. f.free k a (omega arith) }

pub may_split : (first pages heads q n : ℕ) (runs words records : Owned) (control : Bool) → IsPages first pages heads runs words records
    → IsFree pages (granted_in runs.words heads pages) q n → MaySplit control records (heads + pages + 7 * q) (7 * n)
may_split first pages heads q n runs words records true p f =
    has_run records.words (heads + pages) 7 pages q n (is_recorded (granted_in runs.words heads pages)) word_of_record linear_record f.inside p.keeps_records (λ k a b. recorded_free _ k (f.free k a b))
may_split first pages heads q n runs words records false p f = tt

pub may_split_words : (first pages heads q n : ℕ) (runs words records : Owned) → IsPages first pages heads runs words records
    → IsFree pages (granted_in runs.words heads pages) q n → (k : ℕ) → first + 512 * q ≤ k → k < first + 512 * q + 512 * n → is_some (at words.words k) ≡ true
may_split_words first pages heads q n runs words records p f =
    has_run words.words first 512 pages q n (is_taken (granted_in runs.words heads pages)) word_of_page linear_page f.inside p.keeps f.free

records_after : (pages base q n : ℕ) (records records2 : Owned) (out : Option Owned) (before after : List Granted) (control : Bool) → HasKept records.words base 7 pages (is_recorded before)
    → Adds before after (record { from = q; len = n; control = control }) → SplitsOff control records records2 out (base + 7 * q) (7 * n) → HasKept records2.words base 7 pages (is_recorded after)
records_after pages base q n records records2 out before after true keeps a s =
    subst (λ (o : Owned). HasKept o.words base 7 pages (is_recorded after)) (sym s.0)
    (kept_less records.words base 7 pages q n (is_recorded before) (is_recorded after) word_of_record keeps (recorded_more before after (record { from = q; len = n; control = true }) a))
records_after pages base q n records records2 out before after false keeps a s =
    subst (λ (o : Owned). HasKept o.words base 7 pages (is_recorded after)) (sym s.0)
    (kept_same records.words base 7 pages (is_recorded before) (is_recorded after) keeps (recorded_more before after (record { from = q; len = n; control = false }) a))

region_after : (control : Bool) (records records2 : Owned) (out : Option Owned) (from len : ℕ) → SplitsOff control records records2 out from len → records2.region ≡ records.region
region_after true records records2 out from len s = ap (λ (o : Owned). o.region) s.0
region_after false records records2 out from len s = ap (λ (o : Owned). o.region) s.0

pub after_grant : (first pages heads q n : ℕ) (runs runs2 words words2 records records2 : Owned) (out : Option Owned) (control : Bool) → IsPages first pages heads runs words records
    → runs2.region ≡ runs.region → IsRuns runs2.words heads pages
    → Adds (granted_in runs.words heads pages) (granted_in runs2.words heads pages) (record { from = q; len = n; control = control })
    → words2 ≡ owned words.region (rest_of words.words (first + 512 * q) (512 * n))
    → SplitsOff control records records2 out (heads + pages + 7 * q) (7 * n)
    → IsPages first pages heads runs2 words2 records2
after_grant first pages heads q n runs runs2 words words2 records records2 out control p region laid a w s = record {
  words_here = ap (λ (o : Owned). o.region) w ∙ p.words_here ∙ sym region;
  records_here = region_after control records records2 out _ _ s ∙ p.records_here ∙ sym region;
  place = p.place;
  valid = p.valid;
  low = p.low;
  runs_are = laid;
  keeps = subst (λ (o : Owned). HasKept o.words first 512 pages (is_taken (granted_in runs2.words heads pages))) (sym w)
      (kept_less words.words first 512 pages q n (is_taken (granted_in runs.words heads pages)) (is_taken (granted_in runs2.words heads pages)) word_of_page p.keeps (taken_more _ _ (record { from = q; len = n; control = control }) a));
  keeps_records = records_after pages (heads + pages) q n records records2 out _ _ control p.keeps_records a s;
}

pub run_records : (first pages heads q n : ℕ) (runs words records records2 : Owned) (out : Option Owned) (control : Bool) → IsPages first pages heads runs words records
    → IsFree pages (granted_in runs.words heads pages) q n → SplitsOff control records records2 out (heads + pages + 7 * q) (7 * n)
    → HasRecords runs.region first pages q n control out
run_records first pages heads q n runs words records records2 out true p f s =
    let base : heads + pages ≡ records_at first pages = omega (arith, p.place) in
    subst (λ (o : Option Owned). HasRecords runs.region first pages q n true o) (sym s.1) (
      p.records_here,
      subst (λ (z : ℕ). HasJust (range_of records.words (heads + pages + 7 * q) (7 * n)) (z + 7 * q) (7 * n)) base
          (just_run records.words (heads + pages) 7 pages q n (is_recorded (granted_in runs.words heads pages)) word_of_record linear_record f.inside p.keeps_records (λ k a b. recorded_free _ k (f.free k a b))),
    )
run_records first pages heads q n runs words records records2 out false p f s =
    subst (λ (o : Option Owned). HasRecords runs.region first pages q n false o) (sym s.1) tt

pub run_words : (first pages heads q n : ℕ) (runs words records : Owned) → IsPages first pages heads runs words records
    → IsFree pages (granted_in runs.words heads pages) q n → HasJust (range_of words.words (first + 512 * q) (512 * n)) (first + 512 * q) (512 * n)
run_words first pages heads q n runs words records p f =
    just_run words.words first 512 pages q n (is_taken (granted_in runs.words heads pages)) word_of_page linear_page f.inside p.keeps f.free

-- the pages that a walk found are free
pub found_free : (pages heads q n len : ℕ) (runs runs2 : Owned) → IsRuns runs2.words heads pages → granted_in runs2.words heads pages ≡ granted_in runs.words heads pages
    → q < pages → 0 < n → n ≤ len → run_word runs2.words heads q ≡ 4 * len → IsFree pages (granted_in runs.words heads pages) q n
found_free pages heads q n len runs runs2 laid same low some long e =
    subst (λ (gs : List Granted). IsFree pages gs q n) same (free_shorter pages q n len _ long (free_run (run_word runs2.words heads) pages q len laid.laid low (omega arith) e))

pub take_is : (first pages heads q n place : ℕ) (runs runs2 : Owned) (control : Bool) → IsRuns runs2.words heads pages → IsFree pages (granted_in runs.words heads pages) q n
    → Adds (granted_in runs.words heads pages) (granted_in runs2.words heads pages) (record { from = q; len = n; control = control }) → place ≡ first + 512 * q
    → IsTake first (record { pages = pages; granted = granted_in runs.words heads pages }) n control place (record { pages = pages; granted = granted_in runs2.words heads pages })
take_is first pages heads q n place runs runs2 control laid f a e = record {
  from = q;
  place_is = e;
  free = f;
  adds = a;
  apart = granted_apart (run_word runs2.words heads) pages laid.laid;
  pages = refl;
}

pub run_is : (first pages heads q n place : ℕ) (runs words out_words records records2 : Owned) (out : Option Owned) (control : Bool) → IsPages first pages heads runs words records
    → IsFree pages (granted_in runs.words heads pages) q n → SplitsOff control records records2 out (heads + pages + 7 * q) (7 * n)
    → out_words ≡ owned words.region (range_of words.words (first + 512 * q) (512 * n)) → place ≡ first + 512 * q
    → IsRunOf runs.region first pages n control place n out_words out
run_is first pages heads q n place runs words out_words records records2 out control p f s w e = record {
  from = q;
  place_is = e;
  inside = f.inside;
  pages_is = refl;
  here = ap (λ (o : Owned). o.region) w ∙ p.words_here;
  records_are = run_records first pages heads q n runs words records records2 out control p f s;
}

pub run_just : (first pages heads q n place : ℕ) (runs words out_words records : Owned) → IsPages first pages heads runs words records
    → IsFree pages (granted_in runs.words heads pages) q n → out_words ≡ owned words.region (range_of words.words (first + 512 * q) (512 * n)) → place ≡ first + 512 * q
    → (0 < place) × HasJust out_words.words place (512 * n)
run_just first pages heads q n place runs words out_words records p f w e = (
  (let z = p.valid in omega arith),
  subst (λ (o : Owned). HasJust o.words place (512 * n)) (sym w)
      (subst (λ (z : ℕ). HasJust (range_of words.words (first + 512 * q) (512 * n)) z (512 * n)) (sym e) (run_words first pages heads q n runs words records p f)),
)

-- where a walk grants nothing
pub after_walk : (first pages heads : ℕ) (runs runs2 words records : Owned) → IsPages first pages heads runs words records → runs2.region ≡ runs.region → IsRuns runs2.words heads pages
    → granted_in runs2.words heads pages ≡ granted_in runs.words heads pages → IsPages first pages heads runs2 words records
after_walk first pages heads runs runs2 words records p region laid same = record {
  words_here = p.words_here ∙ sym region;
  records_here = p.records_here ∙ sym region;
  place = p.place;
  valid = p.valid;
  low = p.low;
  runs_are = laid;
  keeps = subst (λ (gs : List Granted). HasKept words.words first 512 pages (is_taken gs)) (sym same) p.keeps;
  keeps_records = subst (λ (gs : List Granted). HasKept records.words (heads + pages) 7 pages (is_recorded gs)) (sym same) p.keeps_records;
}
