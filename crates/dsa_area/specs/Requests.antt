-- Which events a request makes, and which answer it has by them. Each event is a call of `free_pages` or `span_pools`
-- with its reply, and is in the history of the pages or of one pool.
use Rattle.std.specs.Prelude.{◌≡◌, ◌≢◌, ℕ, ◌/◌, ◌%◌, ◌<◌, ◌⊎◌, true, false, List, [], ◌∷◌}
use Rattle.size_classes.specs.Classes.{IsClass, IsLeast, class_size, largest_size}
use Rattle.free_pages.specs.Area.{superblock_pages}
use Rattle.free_pages.specs.Legal.{PagesCall, PagesReply, Take, Give, Gets, Lacks, Accepts, HandsBack}
use Rattle.span_pools.specs.Legal.{PoolCall, PoolReply, Alloc, Add, Free, FreeMany, Trim, Object, Full, Kept, Whole, Stranger}
use Rattle.dsa_area.specs.Sizes.{page_bytes, pages_for}
use Rattle.lock_book.specs.Told.{MakesAll}
use Rattle.dsa_area.specs.Shown.{number_of, none_granted, no_superblock, pages_legal, pool_legal, pages_seen, pages_mine, pool_seen, pool_mine}
use Rattle.dsa_area.specs.declared.area.Area.{Area}
use Rattle.dsa_area.specs.declared.area.AreaPass.{AreaPass}

-- a pass p of the area a became q
module _ (a : Area) (p q : AreaPass) where
  -- at the pages, just these events
  abbrev pub AtPages : List (PagesCall × PagesReply) → Type 0
  AtPages es = MakesAll (pages_legal a) (none_granted a) (number_of p) (pages_seen p) (pages_mine p) (pages_seen q) (pages_mine q) es

  -- at the pool of a class, just these events
  abbrev pub AtPool : ℕ → List (PoolCall × PoolReply) → Type 0
  AtPool class es = MakesAll (pool_legal a class) no_superblock (number_of p) (pool_seen p class) (pool_mine p class) (pool_seen q class) (pool_mine q class) es

  -- these events at the pool of a class and at the pages, and none at any other pool
  pub record Events (class : ℕ) (on_pool : List (PoolCall × PoolReply)) (on_pages : List (PagesCall × PagesReply)) : Type 0 where
    pub pool : AtPool class on_pool
    pub pages : AtPages on_pages
    pub others : (other : ℕ) → IsClass other → other ≢ class → AtPool other []

  -- these events at the pool of a class, and no others
  abbrev pub PoolEvents : ℕ → List (PoolCall × PoolReply) → Type 0
  PoolEvents class es = Events class es []

  -- these events at the pages, and none at a pool
  pub record PageEvents (on_pages : List (PagesCall × PagesReply)) : Type 0 where
    pub pages : AtPages on_pages
    pub pools : (class : ℕ) → IsClass class → AtPool class []

  -- The chunk at this word is granted: an object of the least class that holds the request; or the first object of a
  -- superblock, if every object was live; or whole pages, above the largest size
  abbrev pub IsGranted : ℕ → ℕ → Type 0
  IsGranted bytes at =
      ((class : ℕ) × IsLeast bytes class × PoolEvents class ((Alloc, Object at) ∷ []))
      ⊎ (((class run : ℕ) × IsLeast bytes class × Events class ((Alloc, Full) ∷ (Add run, Object at) ∷ []) ((Take superblock_pages true, Gets run) ∷ []))
      ⊎ ((largest_size < bytes) × PageEvents ((Take (pages_for bytes) false, Gets at) ∷ [])))

  -- The request is refused: a run of this many pages was asked for, and these were not there, nor, for an object, a
  -- free one
  abbrev pub IsRefused : ℕ → ℕ → ℕ → Type 0
  IsRefused bytes wanted largest =
      ((class : ℕ) × IsLeast bytes class × Events class ((Alloc, Full) ∷ []) ((Take superblock_pages true, Lacks wanted largest) ∷ []))
      ⊎ ((largest_size < bytes) × PageEvents ((Take (pages_for bytes) false, Lacks wanted largest) ∷ []))

  -- The chunk is taken back: an object; or an object whose superblock then goes to the pages, whatever they reply; or
  -- whole pages
  abbrev pub IsTakenBack : ℕ → ℕ → Type 0
  IsTakenBack at bytes =
      ((class : ℕ) × IsClass class × (class_size class ≡ bytes) × PoolEvents class ((Free at bytes, Kept) ∷ []))
      ⊎ (((class run : ℕ) × (reply : PagesReply) × IsClass class × (class_size class ≡ bytes) × Events class ((Free at bytes, Whole run) ∷ []) ((Give run superblock_pages true, reply) ∷ []))
      ⊎ ((largest_size < bytes) × (bytes % page_bytes ≡ 0) × PageEvents ((Give at (bytes / page_bytes) false, Accepts) ∷ [])))

  -- The chunk is none of the area's: the pool of its size, or the pages, handed it back; or its size is neither a
  -- class's nor that of whole pages above the largest size, and nothing was asked
  abbrev pub IsHandedBack : ℕ → ℕ → Type 0
  IsHandedBack at bytes =
      ((class : ℕ) × IsClass class × (class_size class ≡ bytes) × PoolEvents class ((Free at bytes, Stranger) ∷ []))
      ⊎ (((largest_size < bytes) × (bytes % page_bytes ≡ 0) × PageEvents ((Give at (bytes / page_bytes) false, HandsBack) ∷ []))
      ⊎ (((class : ℕ) → IsClass class → class_size class ≢ bytes) × (largest_size < bytes → bytes % page_bytes ≢ 0) × PageEvents []))

  -- Objects of a class come back in one turn at its pool: their superblocks stay; or one goes to the pages with the
  -- last that came back, whatever they reply
  abbrev pub AreTakenBack : ℕ → List ℕ → Type 0
  AreTakenBack class ats =
      PoolEvents class ((FreeMany ats, Kept) ∷ [])
      ⊎ ((run : ℕ) × (reply : PagesReply) × Events class ((FreeMany ats, Whole run) ∷ []) ((Give run superblock_pages true, reply) ∷ []))

  -- The active superblock of a class went to the pages, whatever they replied
  abbrev pub IsTrimmed : ℕ → Type 0
  IsTrimmed class = (run : ℕ) × (reply : PagesReply) × Events class ((Trim, Whole run) ∷ []) ((Give run superblock_pages true, reply) ∷ [])
