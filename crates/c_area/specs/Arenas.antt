-- The pages and the pools of an area as a value: its name and its state, and what is always so.
use Rattle.std.specs.Prelude.{◌≡◌, ℕ, suc, ◌+◌, List, [], ◌∷◌, length, map}
use Rattle.std.specs.List.{All}
use Rattle.size_classes.specs.Classes.{first_class}
use Rattle.free_pages.specs.Area.{class_count, front, head_words}
use Rattle.span_pools.specs.PoolView.{PoolView, layout_of}
use Rattle.atomic_table.specs.Seated.{TableId}
use Rattle.c_area.specs.States.{AreaState, no_superblock, pool_of}
use Rattle.c_area.specs.declared.arena.Arena.{Arena}
use Rattle.c_area.specs.declared.histories.AreaName.{AreaName}

-- what is fixed of it
abbrev pub name_of : Arena → AreaName
name_of a = record { region = a.pages.region; first = a.pages.first; pages = a.pages.state.pages }

-- its state
abbrev pub state_of : Arena → AreaState
state_of a = record { pages = a.pages.state; pools = map (λ b. b.state) a.pools.items }

-- a pool of this class, over the pages of this name
pub record IsPoolOf (n : AreaName) (class : ℕ) (b : PoolView) : Type 0 where
  pub here : b.region ≡ n.region
  pub layout : b.layout ≡ layout_of class n.first n.pages

-- the pools of the classes from `class` on, in order
abbrev pub ArePools : AreaName → ℕ → List PoolView → Type 0
ArePools n class [] = Unit {0}
ArePools n class (b ∷ bs) = IsPoolOf n class b × ArePools n (suc class) bs

-- a pool of each size class, in order, over the pages
pub record IsArena (a : Arena) : Type 0 where
  pub all : length a.pools.items ≡ class_count
  pub pools : ArePools (name_of a) first_class a.pools.items

-- the name of an area of this many pages whose words begin with a region's word 1
abbrev pub name_in : TableId → ℕ → AreaName
name_in region pages = record { region = region; first = 1 + head_words + front pages; pages = pages }

-- no page is granted, and no pool has a superblock
pub record IsNew (pages : ℕ) (s : AreaState) : Type 0 where
  pub pages_are : s.pages ≡ record { pages = pages; granted = [] }
  pub pools_are : (class : ℕ) → pool_of s class ≡ no_superblock
