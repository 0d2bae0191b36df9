-- What new pages keep.
use Rattle.std.proofs.Common.{◌≡◌, ℕ, ◌+◌, ◌-◌, ◌*◌, ◌/◌, ◌<◌, ◌≤◌, Bool, true, false, not, ◌&&◌, List, [], IsSome, is_some, refl, sym, ap, subst, ◌∙◌, arith}
use Rattle.std.proofs.lemmas.Bool.{false_from_ne_true}
use Rattle.word_map.specs.WordMap.{WordMap, at, is_within, rest_of, range_of}
use Rattle.word_map.proofs.Maps.{at-range, at-rest_cond, within_is, within_true}
use Rattle.region_words.specs.Parts.{Owned}
use Rattle.word_map.specs.WordMap.{HasJust}
use Rattle.free_pages.specs.Legal.{Granted, is_taken, is_recorded}
use Rattle.free_pages.specs.Runs.{IsRuns, granted_in}
use Rattle.free_pages.specs.Area.{front}
use Rattle.free_pages.specs.PagesView.{IsPages, HasKept}
use Rattle.free_pages.proofs.Keys.{some_rest, some_range}

new_has : (m : WordMap) (first pages heads j : ℕ) → HasJust m (first - front pages - 64) (64 + 8 * pages) → 64 + front pages ≤ first → heads ≡ first - front pages → heads - 64 ≤ j → j < heads + pages
    → IsSome (at (rest_of m (heads + pages) (7 * pages)) j)
new_has m first pages heads j just room e low high =
    let out : is_within (heads + pages) (7 * pages) j ≡ false = false_from_ne_true (is_within (heads + pages) (7 * pages) j) (λ h. let i = within_is (heads + pages) (7 * pages) j h in omega (arith, i.0)) in
    let has : is_within (first - front pages - 64) (64 + 8 * pages) j ≡ true = within_true (first - front pages - 64) (64 + 8 * pages) j (omega arith) (omega arith) in
    ap is_some (at-rest_cond m (heads + pages) (7 * pages) j) ∙ some_rest (is_within (heads + pages) (7 * pages) j) (at m j) ∙ ap (λ (b : Bool). not b && is_some (at m j)) out ∙ just j ∙ has

-- the first word at the head
pub new_owns_head : (m : WordMap) (first pages heads : ℕ) → HasJust m (first - front pages - 64) (64 + 8 * pages) → 64 + front pages ≤ first → heads ≡ first - front pages
    → IsSome (at (rest_of m (heads + pages) (7 * pages)) (heads - 64))
new_owns_head m first pages heads just room e = new_has m first pages heads (heads - 64) just room e (omega arith) (omega arith)

-- the run words
pub new_owns : (m : WordMap) (first pages heads p : ℕ) → HasJust m (first - front pages - 64) (64 + 8 * pages) → 64 + front pages ≤ first → heads ≡ first - front pages → p < pages
    → IsSome (at (rest_of m (heads + pages) (7 * pages)) (heads + p))
new_owns m first pages heads p just room e low = new_has m first pages heads (heads + p) just room e (omega arith) (omega arith)

and_all : (b : Bool) → (b && not false) ≡ b
and_all true = refl
and_all false = refl

kept_all : (m : WordMap) (from unit pages : ℕ) (out : List Granted → ℕ → Bool) (gs : List Granted) → ((k : ℕ) → out [] k ≡ false) → gs ≡ [] → HasJust m from (unit * pages) → HasKept m from unit pages (out gs)
kept_all m from unit pages out gs none e just k =
    just k ∙ sym (ap (λ (l : List Granted). is_within from (unit * pages) k && not (out l ((k - from) / unit))) e ∙ ap (λ (b : Bool). is_within from (unit * pages) k && not b) (none ((k - from) / unit)) ∙ and_all (is_within from (unit * pages) k))

just_inside : (w b : Bool) → (w ≡ true → b ≡ true) → (w && b) ≡ w
just_inside true b h = h refl
just_inside false b h = refl

records_just : (m : WordMap) (first pages heads : ℕ) → HasJust m (first - front pages - 64) (64 + 8 * pages) → 64 + front pages ≤ first → heads ≡ first - front pages
    → HasJust (range_of m (heads + pages) (7 * pages)) (heads + pages) (7 * pages)
records_just m first pages heads just room e k =
    ap is_some (at-range m (heads + pages) (7 * pages) k) ∙ some_range (is_within (heads + pages) (7 * pages) k) (at m k)
    ∙ just_inside (is_within (heads + pages) (7 * pages) k) (is_some (at m k)) (λ h. let i = within_is (heads + pages) (7 * pages) k h in just k ∙ within_true (first - front pages - 64) (64 + 8 * pages) k (omega (arith, i.0)) (omega (arith, i.1)))

pub new_pages : (first pages heads : ℕ) (control runs words records : Owned) → HasJust control.words (first - front pages - 64) (64 + 8 * pages) → 64 + front pages ≤ first → first + 512 * pages ≤ 67108864 → heads ≡ first - front pages
    → words.region ≡ runs.region → records.region ≡ runs.region → IsRuns runs.words heads pages → granted_in runs.words heads pages ≡ [] → HasJust words.words first (512 * pages)
    → records.words ≡ range_of control.words (heads + pages) (7 * pages) → IsPages first pages heads runs words records
new_pages first pages heads control runs words records just room low e here here2 laid none all r = record {
  words_here = here;
  records_here = here2;
  place = omega arith;
  valid = omega arith;
  low = low;
  runs_are = laid;
  keeps = kept_all words.words first 512 pages is_taken (granted_in runs.words heads pages) (λ _. refl) none all;
  keeps_records = kept_all records.words (heads + pages) 7 pages is_recorded (granted_in runs.words heads pages) (λ _. refl) none
      (subst (λ (m : WordMap). HasJust m (heads + pages) (7 * pages)) (sym r) (records_just control.words first pages heads just room e));
}
