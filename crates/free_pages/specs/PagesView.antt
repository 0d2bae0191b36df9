-- The pages of an area as a value, and what its parts own.
use Rattle.std.specs.Prelude.{◌≡◌, ℕ, ◌+◌, ◌*◌, ◌-◌, ◌/◌, ◌<◌, ◌≤◌, Bool, true, false, not, ◌&&◌, List, Option, Some, None, is_some, IfSome, refl}
use Rattle.std.specs.Coded.{Coded, code_by, coded×, coded_ℕ, coded_bool, coded_list}
use Rattle.atomic_table.specs.Seated.{TableId, table_id_coded}
use Rattle.word_map.specs.WordMap.{WordMap, at, is_within, range_of, rest_of, union}
use Rattle.region_words.specs.Parts.{Owned, owned}
use Rattle.free_pages.specs.Area.{front, page_words, record_words, HasRecords}
use Rattle.free_pages.specs.Legal.{Granted, PagesState, IsLargest, is_taken, is_recorded}
use Rattle.free_pages.specs.Runs.{IsRuns, granted_in}

-- the region, the first word of page 0, and the state
pub record PagesView : Type 0 where
  pub region : TableId
  pub first : ℕ
  pub state : PagesState

-- the same, from its parts
abbrev pub pages_view : TableId → ℕ → ℕ → List Granted → PagesView
pages_view region first pages granted = record { region = region; first = first; state = record { pages = pages; granted = granted } }

-- the code by which proofs distinguish granted runs
abbrev pub granted_code : Coded Granted
granted_code = code_by (ℕ × (ℕ × Bool)) (coded× coded_ℕ (coded× coded_ℕ coded_bool)) (λ g. (g.from, (g.len, g.control))) (λ p. record { from = p.0; len = p.1.0; control = p.1.1 }) (λ _. refl)

-- the code by which proofs distinguish states
abbrev pub pages_state_code : Coded PagesState
pages_state_code = code_by (ℕ × List Granted) (coded× coded_ℕ (coded_list granted_code)) (λ s. (s.pages, s.granted)) (λ p. record { pages = p.0; granted = p.1 }) (λ _. refl)

-- the code by which proofs distinguish such values
abbrev pub pages_view_code : Coded PagesView
pages_view_code = code_by (TableId × (ℕ × (ℕ × List Granted))) (coded× table_id_coded (coded× coded_ℕ (coded× coded_ℕ (coded_list granted_code))))
    (λ b. (b.region, (b.first, (b.state.pages, b.state.granted)))) (λ p. pages_view p.0 p.1.0 p.1.1.0 p.1.1.1) (λ _. refl)

-- m has just the words of the pages that are not out, `unit` words for each page from the word `from`
abbrev pub HasKept : WordMap → ℕ → ℕ → ℕ → (ℕ → Bool) → Type 0
HasKept m from unit pages out = (k : ℕ) → is_some (at m k) ≡ (is_within from (unit * pages) k && not (out ((k - from) / unit)))

-- The parts of `Pages`: `runs` has the words at the head and the run words, for good; `words` has the words of the
-- pages that are not granted; `records` has the control records that are not out with a run
pub record IsPages (first pages heads : ℕ) (runs words records : Owned) : Type 0 where
  pub words_here : words.region ≡ runs.region
  pub records_here : records.region ≡ runs.region
  pub place : heads + front pages ≡ first
  pub valid : 0 < first
  pub low : first + page_words * pages ≤ 67108864
  pub runs_are : IsRuns runs.words heads pages
  pub keeps : HasKept words.words first page_words pages (is_taken (granted_in runs.words heads pages))
  pub keeps_records : HasKept records.words (heads + pages) record_words pages (is_recorded (granted_in runs.words heads pages))

-- the longest run of free pages, if it is known
abbrev pub IsLongest : ℕ → List Granted → Option ℕ → Type 0
IsLongest pages granted known = IfSome known (λ n. IsLargest pages granted n)

-- the tokens of a run of n of these pages: its control records are those of its pages, or did not go with them
pub record IsRunOf (region : TableId) (first pages n : ℕ) (control : Bool) (place run_pages : ℕ) (words : Owned) (records : Option Owned) : Type 0 where
  pub from : ℕ
  pub place_is : place ≡ first + page_words * from
  pub inside : from + n ≤ pages
  pub pages_is : run_pages ≡ n
  pub here : words.region ≡ region
  pub records_are : HasRecords region first pages from n control records

-- the tokens of a run that may be offered: if its place is that of some of these pages, the control records with it are
-- those of its pages
pub record MayGive (region : TableId) (first pages place run_pages : ℕ) (words : Owned) (records : Option Owned) : Type 0 where
  pub here : words.region ≡ region
  pub records_are : (from : ℕ) → place ≡ first + page_words * from → from + run_pages ≤ pages → HasRecords region first pages from run_pages (is_some records) records

-- a range is split off a part, if `control` is true
abbrev pub SplitsOff : Bool → Owned → Owned → Option Owned → ℕ → ℕ → Type 0
SplitsOff true before after out from len = (after ≡ owned before.region (rest_of before.words from len)) × (out ≡ Some (owned before.region (range_of before.words from len)))
SplitsOff false before after out from len = (after ≡ before) × (out ≡ None)

-- a part takes in another one, if there is one
abbrev pub JoinsBack : Owned → Owned → Option Owned → Type 0
JoinsBack before after (Some o) = after ≡ owned before.region (union before.words o.words)
JoinsBack before after None = after ≡ before

-- a range that may be split off is there
abbrev pub MaySplit : Bool → Owned → ℕ → ℕ → Type 0
MaySplit true o from len = (k : ℕ) → from ≤ k → k < from + len → is_some (at o.words k) ≡ true
MaySplit false o from len = Unit {0}
