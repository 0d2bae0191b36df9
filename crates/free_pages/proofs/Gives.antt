-- What is kept after a run is given back.
use Rattle.std.proofs.Common.{◌≡◌, ℕ, ◌+◌, ◌*◌, ◌<◌, Bool, true, false, List, Option, Some, None, is_some, IfSome, ◌≢◌, refl, sym, ap, subst, ◌∙◌, arith}
use Rattle.word_map.specs.WordMap.{union}
use Rattle.region_words.specs.Parts.{Owned, owned}
use Rattle.word_map.specs.WordMap.{HasJust}
use Rattle.atomic_table.specs.Seated.{TableId}
use Rattle.free_pages.specs.Legal.{Granted, is_taken, is_recorded, IsFree, Adds, IsGive, IsHandedBack}
use Rattle.free_pages.proofs.Apart.{granted_apart}
use Rattle.free_pages.specs.Runs.{IsRuns, granted_in, run_word}
use Rattle.free_pages.proofs.Lists.{word_of}
use Rattle.free_pages.specs.Area.{HasRecords, records_at}
use Rattle.free_pages.specs.PagesView.{IsPages, HasKept, JoinsBack, MayGive}
use Rattle.free_pages.proofs.Keys.{word_of_page, word_of_record, linear_page, linear_record, kept_more, kept_same, taken_more, recorded_more, recorded_free}

region_after : (records records2 : Owned) (out : Option Owned) → JoinsBack records records2 out → records2.region ≡ records.region
region_after records records2 (Some o) s = ap (λ (o : Owned). o.region) s
region_after records records2 None s = ap (λ (o : Owned). o.region) s

records_after : (region : Owned) (first pages base q n : ℕ) (records records2 : Owned) (out : Option Owned) (before after : List Granted) → base ≡ records_at first pages → HasKept records.words base 7 pages (is_recorded before)
    → IsFree pages after q n → Adds after before (record { from = q; len = n; control = is_some out }) → HasRecords region.region first pages q n (is_some out) out → JoinsBack records records2 out
    → HasKept records2.words base 7 pages (is_recorded after)
records_after region first pages base q n records records2 (Some o) before after e keeps f a h s =
    subst (λ (x : Owned). HasKept x.words base 7 pages (is_recorded after)) (sym s)
    (kept_more records.words o.words base 7 pages q n (is_recorded before) (is_recorded after) word_of_record linear_record f.inside keeps
    (subst (λ (z : ℕ). HasJust o.words (z + 7 * q) (7 * n)) (sym e) h.1) (recorded_more after before (record { from = q; len = n; control = true }) a) (λ k x y. recorded_free after k (f.free k x y)))
records_after region first pages base q n records records2 None before after e keeps f a h s =
    subst (λ (x : Owned). HasKept x.words base 7 pages (is_recorded after)) (sym s)
    (kept_same records.words base 7 pages (is_recorded before) (is_recorded after) keeps (λ k. sym (recorded_more after before (record { from = q; len = n; control = false }) a k)))

pub after_give : (first pages heads q n place : ℕ) (runs runs2 words back words2 records records2 : Owned) (out : Option Owned) → IsPages first pages heads runs words records
    → runs2.region ≡ runs.region → IsRuns runs2.words heads pages → IsFree pages (granted_in runs2.words heads pages) q n
    → Adds (granted_in runs2.words heads pages) (granted_in runs.words heads pages) (record { from = q; len = n; control = is_some out })
    → place ≡ first + 512 * q → MayGive runs.region first pages place n back out → HasJust back.words place (512 * n)
    → words2 ≡ owned words.region (union words.words back.words) → JoinsBack records records2 out
    → IsPages first pages heads runs2 words2 records2
after_give first pages heads q n place runs runs2 words back words2 records records2 out p region laid f a e m just w s = record {
  words_here = ap (λ (o : Owned). o.region) w ∙ p.words_here ∙ sym region;
  records_here = region_after records records2 out s ∙ p.records_here ∙ sym region;
  place = p.place;
  valid = p.valid;
  low = p.low;
  runs_are = laid;
  keeps = subst (λ (o : Owned). HasKept o.words first 512 pages (is_taken (granted_in runs2.words heads pages))) (sym w)
      (kept_more words.words back.words first 512 pages q n (is_taken (granted_in runs.words heads pages)) (is_taken (granted_in runs2.words heads pages)) word_of_page linear_page f.inside p.keeps
      (subst (λ (z : ℕ). HasJust back.words z (512 * n)) e just) (taken_more _ _ (record { from = q; len = n; control = is_some out }) a) f.free);
  keeps_records = records_after runs first pages (heads + pages) q n records records2 out (granted_in runs.words heads pages) (granted_in runs2.words heads pages) (omega (arith, p.place)) p.keeps_records f a (m.records_are q e f.inside) s;
}

pub none_there : (first pages heads place n : ℕ) (runs : Owned) (control : Bool) → IsRuns runs.words heads pages → ((from : ℕ) → from < pages → place ≢ first + 512 * from)
    → IsHandedBack first (record { pages = pages; granted = granted_in runs.words heads pages }) place n control (record { pages = pages; granted = granted_in runs.words heads pages })
none_there first pages heads place n runs control laid none = record {
  none = λ from rest e a. none from (word_of (run_word runs.words heads) pages from n control rest laid.laid a).0 e;
  same = refl;
}

pub not_there : (first pages heads place n q : ℕ) (runs runs2 : Owned) (control : Bool) → runs2 ≡ runs → ((rest : List Granted) → Adds rest (granted_in runs.words heads pages) (record { from = q; len = n; control = control }) → ⊥)
    → place ≡ first + 512 * q → IsHandedBack first (record { pages = pages; granted = granted_in runs.words heads pages }) place n control (record { pages = pages; granted = granted_in runs2.words heads pages })
not_there first pages heads place n q runs runs2 control s none e = record {
  none = λ from rest f a. none rest (subst (λ (z : ℕ). Adds rest (granted_in runs.words heads pages) (record { from = z; len = n; control = control })) (let z : from ≡ q = omega arith in z) a);
  same = ap (λ (o : Owned). record { pages = pages; granted = granted_in o.words heads pages }) s;
}

pub give_is : (first pages heads q n place : ℕ) (runs runs2 : Owned) (control : Bool) → IsRuns runs2.words heads pages
    → Adds (granted_in runs2.words heads pages) (granted_in runs.words heads pages) (record { from = q; len = n; control = control }) → place ≡ first + 512 * q
    → IsGive first (record { pages = pages; granted = granted_in runs.words heads pages }) place n control (record { pages = pages; granted = granted_in runs2.words heads pages })
give_is first pages heads q n place runs runs2 control laid a e = record {
  from = q;
  place_is = e;
  removes = a;
  apart = granted_apart (run_word runs2.words heads) pages laid.laid;
  pages = refl;
}

pub records_region : (region : TableId) (first pages q n : ℕ) (out : Option Owned) → HasRecords region first pages q n (is_some out) out → IfSome out (λ o. o.region ≡ region)
records_region region first pages q n (Some o) h = h.0
records_region region first pages q n None h = tt

pub adds_as : (before after before2 after2 : List Granted) (q n n2 : ℕ) (c c2 : Bool) → before ≡ before2 → after ≡ after2 → n ≡ n2 → c ≡ c2
    → Adds before after (record { from = q; len = n; control = c }) → Adds before2 after2 (record { from = q; len = n2; control = c2 })
adds_as before after before2 after2 q n n2 c c2 e f g h a =
    subst (λ (z : Bool). Adds before2 after2 (record { from = q; len = n2; control = z })) h
    (subst (λ (z : ℕ). Adds before2 after2 (record { from = q; len = z; control = c })) g
    (subst (λ (z : List Granted). Adds before2 z (record { from = q; len = n; control = c })) f
    (subst (λ (z : List Granted). Adds z after (record { from = q; len = n; control = c })) e a)))
