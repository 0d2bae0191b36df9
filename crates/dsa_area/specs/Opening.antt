-- How an area is laid out when it opens.
use Rattle.std.specs.Prelude.{◌≡◌, ℕ, ◌+◌, ◌<◌, ◌≤◌, List, length, IsSome, None, []}
use mathlib.Core.Option.{some}
use lib.ListN.{get_elem?}
use Rattle.atomic_table.specs.Seated.{TableId}
use Rattle.word_map.specs.WordMap.{WordMap, at}
use Rattle.size_classes.specs.Classes.{first_class}
use Rattle.span_pools.specs.PoolView.{PoolView, pool_view, layout_of}
use Rattle.dsa_area.specs.declared.pools.LockedPool.{LockedPool}

-- m has each word from `from` on that is below `to`
abbrev pub HasWords : WordMap → ℕ → ℕ → Type 0
HasWords m from to = (k : ℕ) → from ≤ k → k < to → IsSome (at m k)

-- the pool of a class, without a superblock, over this many pages of this region whose page 0 begins at word `first`
abbrev pub empty_pool : TableId → ℕ → ℕ → ℕ → PoolView
empty_pool region first pages class = pool_view region (layout_of class first pages) (record { spans = []; active = None })

-- these are such pools, of the classes in order
abbrev pub AreEmptyPools : TableId → ℕ → ℕ → List LockedPool → Type 0
AreEmptyPools region first pages items = (i : ℕ) → i < length items → get_elem? items i ≡ some (record { pool = empty_pool region first pages (i + first_class) })
