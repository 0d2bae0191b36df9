-- What the pages answer, as a relation of the state before, the call, the reply and the state after.
use Rattle.std.specs.Prelude.{◌≡◌, ℕ, ◌+◌, ◌*◌, ◌<◌, ◌≤◌, Bool, false, ◌&&◌, ◌||◌, List, [], ◌∷◌, ◌++◌}
use Rattle.word_map.specs.WordMap.{is_within}
use Rattle.free_pages.specs.Area.{page_words}

-- a granted run: its first page, its number of pages, and whether its control records went with it
pub record Granted : Type 0 where
  pub from : ℕ
  pub len : ℕ
  pub control : Bool

-- whether page k is in a granted run
abbrev pub is_taken : List Granted → ℕ → Bool
is_taken [] k = false
is_taken (g ∷ gs) k = is_within g.from g.len k || is_taken gs k

-- whether page k is in a run that was granted with its control records
abbrev pub is_recorded : List Granted → ℕ → Bool
is_recorded [] k = false
is_recorded (g ∷ gs) k = (g.control && is_within g.from g.len k) || is_recorded gs k

-- how many pages are in granted runs
abbrev pub used_by : List Granted → ℕ
used_by [] = 0
used_by (g ∷ gs) = g.len + used_by gs

-- these pages are in no granted run
pub record IsFree (pages : ℕ) (granted : List Granted) (from len : ℕ) : Type 0 where
  pub inside : from + len ≤ pages
  pub free : (k : ℕ) → from ≤ k → k < from + len → is_taken granted k ≡ false

-- the longest run of pages that are not granted has n pages
pub record IsLargest (pages : ℕ) (granted : List Granted) (n : ℕ) : Type 0 where
  pub there : (from : ℕ) × IsFree pages granted from n
  pub most : (from len : ℕ) → IsFree pages granted from len → len ≤ n

-- the second list has one run more
abbrev pub Adds : List Granted → List Granted → Granted → Type 0
Adds before after g = (xs ys : List Granted) × (before ≡ xs ++ ys) × (after ≡ xs ++ (g ∷ ys))

-- the runs are in the order of their pages, from page `low` on; each has a page, and no two have one in common
abbrev pub AreApart : ℕ → ℕ → List Granted → Type 0
AreApart pages low [] = Unit {0}
AreApart pages low (g ∷ gs) = (low ≤ g.from) × (0 < g.len) × (g.from + g.len ≤ pages) × AreApart pages (g.from + g.len) gs

-- the state: how many pages there are, and the granted runs in the order of their pages
pub record PagesState : Type 0 where
  pub pages : ℕ
  pub granted : List Granted

-- a call: n pages, with their control records or not; or a run, by its first word, its pages, and whether its records
-- are with it; or a look at how many pages are granted
pub data PagesCall : Type 0 where
  Take : ℕ → Bool → PagesCall
  Give : ℕ → ℕ → Bool → PagesCall
  Look : PagesCall

-- a reply: the first word of the run that is granted; or the pages that were wanted, and the longest run of free ones;
-- the run is taken back; or it is handed back; or the pages that are granted, and the longest run of free ones
pub data PagesReply : Type 0 where
  Gets : ℕ → PagesReply
  Lacks : ℕ → ℕ → PagesReply
  Accepts : PagesReply
  HandsBack : PagesReply
  Shows : ℕ → ℕ → PagesReply

-- n pages in a row that were free are granted. Page 0 begins at word `first`
pub record IsTake (first : ℕ) (before : PagesState) (n : ℕ) (control : Bool) (place : ℕ) (after : PagesState) : Type 0 where
  pub from : ℕ
  pub place_is : place ≡ first + page_words * from
  pub free : IsFree before.pages before.granted from n
  pub adds : Adds before.granted after.granted (record { from = from; len = n; control = control })
  pub apart : AreApart after.pages 0 after.granted
  pub pages : after.pages ≡ before.pages

-- no n pages in a row are free
pub record IsNoRun (before : PagesState) (n wanted largest : ℕ) (after : PagesState) : Type 0 where
  pub wanted_is : wanted ≡ n
  pub too_few : largest < n
  pub largest_is : IsLargest before.pages before.granted largest
  pub same : after ≡ before

-- a granted run is no longer granted
pub record IsGive (first : ℕ) (before : PagesState) (place n : ℕ) (control : Bool) (after : PagesState) : Type 0 where
  pub from : ℕ
  pub place_is : place ≡ first + page_words * from
  pub removes : Adds after.granted before.granted (record { from = from; len = n; control = control })
  pub apart : AreApart after.pages 0 after.granted
  pub pages : after.pages ≡ before.pages

-- no granted run has this first page, this length and its records or lack of them
pub record IsHandedBack (first : ℕ) (before : PagesState) (place n : ℕ) (control : Bool) (after : PagesState) : Type 0 where
  pub none : (from : ℕ) (rest : List Granted) → place ≡ first + page_words * from → Adds rest before.granted (record { from = from; len = n; control = control }) → ⊥
  pub same : after ≡ before

-- this many pages are granted, and the longest run of free ones has this many
pub record IsLook (before : PagesState) (used largest : ℕ) (after : PagesState) : Type 0 where
  pub used_is : used ≡ used_by before.granted
  pub largest_is : IsLargest before.pages before.granted largest
  pub same : after ≡ before

-- what a call may reply, and what it does to the state. A reply of another call never comes
abbrev pub IsLegal : ℕ → PagesState → PagesCall → PagesReply → PagesState → Type 0
IsLegal first before (Take n control) (Gets place) after = IsTake first before n control place after
IsLegal first before (Take n control) (Lacks wanted largest) after = IsNoRun before n wanted largest after
IsLegal first before (Give place n control) Accepts after = IsGive first before place n control after
IsLegal first before (Give place n control) HandsBack after = IsHandedBack first before place n control after
IsLegal first before Look (Shows used largest) after = IsLook before used largest after
IsLegal first before call reply after = ⊥
