-- The run words, which lie in the region and say which runs of pages are granted. Only `Pages` changes them: the word
-- of a run's first page is four times its number of pages, plus 0 if it is free, 1 if it was granted without its
-- control records, 2 with them. Every other run word is 0. (freepage.c keeps free runs in a tree in the pages; here all
-- runs are in these words.)
use Rattle.std.specs.Prelude.{◌≡◌, ℕ, zero, suc, ◌+◌, ◌/◌, ◌%◌, ◌<◌, ◌≤◌, cond, ◌==◌, true, List, [], ◌∷◌, unwrap_or, IsSome}
use Rattle.word_map.specs.WordMap.{WordMap, at}
use Rattle.free_pages.specs.Legal.{Granted, IsFree, is_taken}

-- the value of the run word of page p
abbrev pub run_word : WordMap → ℕ → ℕ → ℕ
run_word m heads p = unwrap_or (at m (heads + p)) 0

-- what the run word x of page p adds to the list of granted runs
abbrev pub emit : ℕ → ℕ → List Granted → List Granted
emit p x rest = cond (x % 4 == 0) rest (record { from = p; len = x / 4; control = x % 4 == 2 } ∷ rest)

-- the granted runs that begin in the n pages from p
abbrev pub granted_of : (ℕ → ℕ) → ℕ → ℕ → List Granted
granted_of w p zero = []
granted_of w p (suc n) = emit p (w p) (granted_of w (suc p) n)

-- a run begins at page p, and another one, or the end of the pages, follows it
pub record IsHead (w : ℕ → ℕ) (pages p : ℕ) : Type 0 where
  pub long : 0 < w p / 4
  pub kind : w p % 4 < 3
  pub inside : p + w p / 4 ≤ pages
  pub zeros : (k : ℕ) → p < k → k < p + w p / 4 → w k ≡ 0
  pub next : p + w p / 4 < pages → 0 < w (p + w p / 4)

-- the run words part the pages into runs
pub record IsLaid (w : ℕ → ℕ) (pages : ℕ) : Type 0 where
  pub begins : 0 < pages → 0 < w 0
  pub heads : (p : ℕ) → p < pages → 0 < w p → IsHead w pages p

-- m has a run word of each page, and they part the pages into runs
pub record IsRuns (m : WordMap) (heads pages : ℕ) : Type 0 where
  pub owns : (p : ℕ) → p < pages → IsSome (at m (heads + p))
  pub laid : IsLaid (run_word m heads) pages

-- the granted runs that these run words show
abbrev pub granted_in : WordMap → ℕ → ℕ → List Granted
granted_in m heads pages = granted_of (run_word m heads) 0 pages

-- every page before page p is granted, and a run begins there or the pages end
pub record IsFilled (m : WordMap) (heads pages p : ℕ) : Type 0 where
  pub inside : p ≤ pages
  pub head : p < pages → 0 < run_word m heads p
  pub taken : (k : ℕ) → k < p → is_taken (granted_in m heads pages) k ≡ true

-- no run is lost: where one began, one begins
abbrev pub KeepsHeads : WordMap → WordMap → ℕ → Type 0
KeepsHeads before after heads = (k : ℕ) → 0 < run_word before heads k → 0 < run_word after heads k

-- among the runs of free pages that begin before page p, the longest has n pages
pub record IsBest (pages : ℕ) (granted : List Granted) (p n : ℕ) : Type 0 where
  pub there : (from : ℕ) × IsFree pages granted from n
  pub most : (from len : ℕ) → from < p → IsFree pages granted from len → len ≤ n

-- the run that the run word x shows at page p
abbrev pub granted_at : ℕ → ℕ → Granted
granted_at p x = record { from = p; len = x / 4; control = x % 4 == 2 }
