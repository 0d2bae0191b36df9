-- What a closed area shows.
use Rattle.std.specs.Prelude.{◌≡◌, ℕ, ◌-◌, ◌≤◌, List, []}
use mathlib.Core.Option.{some}
use lib.ListN.{get_elem?}
use Rattle.lock_book.specs.declared.view.Entry.{Entry}
use Rattle.lock_book.specs.History.{StartsWith, IsLegal, calls_by}
use Rattle.lock_book.specs.Shown as shelf
use Rattle.free_pages.specs.Legal.{PagesState, PagesCall, PagesReply}
use Rattle.span_pools.specs.Legal.{PoolState, PoolCall, PoolReply}
use Rattle.size_classes.specs.Classes.{IsClass, first_class}
use Rattle.dsa_area.specs.declared.area.Area.{Area}
use Rattle.dsa_area.specs.declared.area.AreaPass.{AreaPass}
use Rattle.dsa_area.specs.declared.close.ClosedArea.{ClosedArea}
use Rattle.dsa_area.specs.Shown.{callers_of, none_granted, no_superblock, pages_legal, pool_legal, pages_seen, pages_mine, pool_seen, pool_mine}

-- the whole history of the pages
abbrev pub pages_whole : ClosedArea → List (Entry PagesState PagesCall PagesReply)
pages_whole c = shelf.whole_of c.pages 0

-- the whole history of the pool of a class
abbrev pub pool_whole : ClosedArea → ℕ → List (Entry PoolState PoolCall PoolReply)
pool_whole c class = shelf.whole_of c.pools (class - first_class)

-- A value's whole history is legal and begins with what each pass had seen; the entries of a caller are the own calls
-- of its pass, and there are no others
pub record IsWhole {S C R : Type 0} (legal : ℕ → S → C → R → S → Type 0) (opening : S) (callers : ℕ) (passes : List AreaPass) (seen mine : AreaPass → List (Entry S C R)) (whole : List (Entry S C R)) : Type 0 where
  pub lawful : IsLegal legal opening whole
  pub begins : (n : ℕ) (p : AreaPass) → get_elem? passes n ≡ some p → StartsWith whole (seen p)
  pub own : (n : ℕ) (p : AreaPass) → get_elem? passes n ≡ some p → calls_by n whole ≡ mine p
  pub no_others : (n : ℕ) → callers ≤ n → calls_by n whole ≡ []

-- the area with these passes was closed
pub record Ended (a : Area) (passes : List AreaPass) (c : ClosedArea) : Type 0 where
  pub pages : IsWhole (pages_legal a) (none_granted a) (callers_of a) passes pages_seen pages_mine (pages_whole c)
  pub pools : (class : ℕ) → IsClass class → IsWhole (pool_legal a class) no_superblock (callers_of a) passes (λ p. pool_seen p class) (λ p. pool_mine p class) (pool_whole c class)
