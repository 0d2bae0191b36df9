-- What a contract sees of an area and of its passes.
use Rattle.std.specs.Prelude.{◌≡◌, ℕ, ◌+◌, ◌-◌, ◌<◌, List, [], ◌∷◌, length, None}
use mathlib.Core.Option.{some}
use lib.ListN.{get_elem?}
use Rattle.atomic_table.specs.Seated.{TableId}
use Rattle.lock_book.specs.declared.view.Entry.{Entry}
use Rattle.lock_book.specs.Shown as shelf
use Rattle.free_pages.specs.Legal as pages
use Rattle.free_pages.specs.Legal.{PagesState, PagesCall, PagesReply}
use Rattle.span_pools.specs.Legal as pool
use Rattle.span_pools.specs.Legal.{PoolState, PoolCall, PoolReply}
use Rattle.span_pools.specs.PoolView.{layout_of}
use Rattle.span_pools.specs.declared.histories.PoolName.{PoolName}
use Rattle.free_pages.specs.Area.{class_count}
use Rattle.size_classes.specs.Classes.{first_class}
use Rattle.dsa_area.specs.declared.pages.PagesName.{PagesName}
use Rattle.dsa_area.specs.declared.area.Area.{Area}
use Rattle.dsa_area.specs.declared.area.AreaPass.{AreaPass}

-- the first word of page 0
abbrev pub first_of : Area → ℕ
first_of a = a.first

-- how many pages the area has
abbrev pub pages_of : Area → ℕ
pages_of a = a.count

-- how many callers the area has
abbrev pub callers_of : Area → ℕ
callers_of a = shelf.callers_of a.pages

-- the name of the pages
abbrev pub pages_name : TableId → Area → PagesName
pages_name region a = record { region = region; first = first_of a; pages = pages_of a }

-- no page is granted
abbrev pub none_granted : Area → PagesState
none_granted a = record { pages = pages_of a; granted = [] }

-- the name of the pool of a class
abbrev pub pool_name : TableId → Area → ℕ → PoolName
pool_name region a class = record { region = region; layout = layout_of class (first_of a) (pages_of a) }

-- a pool without a superblock
abbrev pub no_superblock : PoolState
no_superblock = record { spans = []; active = None }

-- what a call at the pages may reply, and what it does to the state
abbrev pub pages_legal : Area → ℕ → PagesState → PagesCall → PagesReply → PagesState → Type 0
pages_legal a caller before call reply after = pages.IsLegal (first_of a) before call reply after

-- the same at the pool of a class
abbrev pub pool_legal : Area → ℕ → ℕ → PoolState → PoolCall → PoolReply → PoolState → Type 0
pool_legal a class caller before call reply after = pool.IsLegal (layout_of class (first_of a) (pages_of a)) before call reply after

-- The area is in this region. It opened with no page granted, and with a pool of each class, in order, without a
-- superblock
pub record IsArea (region : TableId) (a : Area) : Type 0 where
  pub pages : shelf.opens_of a.pages ≡ (pages_name region a, none_granted a) ∷ []
  pub count : shelf.count_of a.pools ≡ class_count
  pub pools : (i : ℕ) → i < class_count → get_elem? (shelf.opens_of a.pools) i ≡ some (pool_name region a (i + first_class), no_superblock)
  pub callers : shelf.callers_of a.pools ≡ shelf.callers_of a.pages

-- the number of the pass's caller
abbrev pub number_of : AreaPass → ℕ
number_of p = shelf.number_of p.pages

-- the history of the pages that the pass has seen
abbrev pub pages_seen : AreaPass → List (Entry PagesState PagesCall PagesReply)
pages_seen p = shelf.seen_of p.pages 0

-- the pass's own calls at the pages
abbrev pub pages_mine : AreaPass → List (Entry PagesState PagesCall PagesReply)
pages_mine p = shelf.mine_of p.pages 0

-- the history of the pool of a class that the pass has seen
abbrev pub pool_seen : AreaPass → ℕ → List (Entry PoolState PoolCall PoolReply)
pool_seen p class = shelf.seen_of p.pools (class - first_class)

-- the pass's own calls at the pool of a class
abbrev pub pool_mine : AreaPass → ℕ → List (Entry PoolState PoolCall PoolReply)
pool_mine p class = shelf.mine_of p.pools (class - first_class)

-- the pass is one of this area's, with what is always true of such a pass: what it has seen is legal, and its own calls
-- are there, each once
pub record Belongs (a : Area) (p : AreaPass) : Type 0 where
  pub pages : shelf.Belongs a.pages p.pages
  pub pools : shelf.Belongs a.pools p.pools
  pub one_caller : shelf.number_of p.pools ≡ shelf.number_of p.pages

-- the passes of all callers, in order of their numbers
pub record AreAll (a : Area) (passes : List AreaPass) : Type 0 where
  pub count : length passes ≡ callers_of a
  pub each : (k : ℕ) (p : AreaPass) → get_elem? passes k ≡ some p → Belongs a p
  pub numbers : (k : ℕ) (p : AreaPass) → get_elem? passes k ≡ some p → number_of p ≡ k

-- the pass has seen nothing
pub record IsFresh (p : AreaPass) : Type 0 where
  pub pages : (pages_seen p ≡ []) × (pages_mine p ≡ [])
  pub pools : (class : ℕ) → (pool_seen p class ≡ []) × (pool_mine p class ≡ [])

-- What a meeting with `other` made of the pass p, which is q afterwards: of the pages and of each pool it has seen the
-- longer of the two histories, which begins with both; its own calls stay
pub record Met (p other q : AreaPass) : Type 0 where
  pub pages : shelf.Met p.pages other.pages q.pages
  pub pools : shelf.Met p.pools other.pools q.pools

-- the two passes have seen the same
pub record SeeTheSame (p q : AreaPass) : Type 0 where
  pub pages : pages_seen p ≡ pages_seen q
  pub pools : (class : ℕ) → pool_seen p class ≡ pool_seen q class
