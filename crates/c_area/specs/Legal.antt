-- What an area answers, as a relation of the state before, the call, the reply and the state after. Each call is made of
-- one or two calls of the pages and of the pool of one size class, in one turn.
use Rattle.std.specs.Prelude.{◌≡◌, ◌≢◌, ℕ, ◌/◌, ◌%◌, ◌<◌, ◌⊎◌, true, false}
use Rattle.size_classes.specs.Classes.{IsClass, IsLeast, class_size, largest_size}
use Rattle.free_pages.specs.Area.{superblock_pages}
use Rattle.free_pages.specs.Legal.{PagesState, PagesCall, PagesReply, Take, Give, Look, Gets, Lacks, Accepts, HandsBack, Shows}
use Rattle.free_pages.specs.Legal as pages
use Rattle.span_pools.specs.declared.layout.Layout.{Layout}
use Rattle.span_pools.specs.Legal.{PoolState, AllLive, Alloc, Add, Free, Trim, Object, Kept, Whole, Stranger}
use Rattle.span_pools.specs.Legal as pool
use Rattle.span_pools.specs.PoolView.{layout_of}
use Rattle.dsa_area.specs.Sizes.{page_bytes, pages_for}
use Rattle.c_area.specs.States.{AreaState, AreaCall, AreaReply, Request, Return, TrimClass, LookAt, Granted, Refused, TakenBack, HandedBack, Trimmed, Untrimmed, Seen, pool_of}
use Rattle.c_area.specs.declared.histories.AreaName.{AreaName}

-- The pages p and the pool b of one class, whose superblocks lie so, become p' and b'. Page 0 begins at word `first`
abbrev pub Step : Type 1
Step = Layout → ℕ → PagesState → PoolState → PagesState → PoolState → Type 0

-- an object at this word becomes live: a free one, or one of a superblock that comes in, if none was free
abbrev pub GrantsObject : ℕ → Step
GrantsObject at l first p b p' b' = ((p' ≡ p) × pool.IsLegal l b Alloc (Object at) b')
    ⊎ ((run : ℕ) × AllLive b × pages.IsLegal first p (Take superblock_pages true) (Gets run) p' × pool.IsLegal l b (Add run) (Object at) b')

-- no object is free, nor are the pages of a superblock
abbrev pub LacksObject : ℕ → ℕ → Step
LacksObject wanted largest l first p b p' b' = AllLive b × pages.IsLegal first p (Take superblock_pages true) (Lacks wanted largest) p' × (b' ≡ b)

-- an object comes back; its superblock may go to the pages with it, whatever they reply
abbrev pub TakesObject : ℕ → ℕ → Step
TakesObject at bytes l first p b p' b' = ((p' ≡ p) × pool.IsLegal l b (Free at bytes) Kept b')
    ⊎ ((run : ℕ) × (reply : PagesReply) × pool.IsLegal l b (Free at bytes) (Whole run) b' × pages.IsLegal first p (Give run superblock_pages true) reply p')

-- no superblock has an object of this size at this word
abbrev pub IsNoObject : ℕ → ℕ → Step
IsNoObject at bytes l first p b p' b' = (p' ≡ p) × pool.IsLegal l b (Free at bytes) Stranger b'

-- the active superblock, in which nothing is live, goes to the pages
abbrev pub TrimsPool : Step
TrimsPool l first p b p' b' = (run : ℕ) × (reply : PagesReply) × pool.IsLegal l b Trim (Whole run) b' × pages.IsLegal first p (Give run superblock_pages true) reply p'

-- it has a live object, if there is one
abbrev pub KeepsPool : Step
KeepsPool l first p b p' b' = (p' ≡ p) × pool.IsLegal l b Trim Kept b'

module _ (n : AreaName) (before after : AreaState) where
  -- such a step of the pages and the pool of a class; no other pool changes
  pub record AtClass (step : Step) (class : ℕ) : Type 0 where
    pub is_class : IsClass class
    pub made : step (layout_of class n.first n.pages) n.first before.pages (pool_of before class) after.pages (pool_of after class)
    pub others : (other : ℕ) → IsClass other → other ≢ class → pool_of after other ≡ pool_of before other

  -- a call of the pages; no pool changes
  pub record AtPages (c : PagesCall) (r : PagesReply) : Type 0 where
    pub made : pages.IsLegal n.first before.pages c r after.pages
    pub pools : after.pools ≡ before.pools

  -- A chunk for this many bytes is granted at this word: an object of the least class that holds them, or above the
  -- largest size whole pages
  abbrev pub Grants : ℕ → ℕ → Type 0
  Grants bytes at =
      ((class : ℕ) × IsLeast bytes class × AtClass (GrantsObject at) class)
      ⊎ ((largest_size < bytes) × AtPages (Take (pages_for bytes) false) (Gets at))

  -- it is refused: this many pages in a row are not free
  abbrev pub Refuses : ℕ → ℕ → ℕ → Type 0
  Refuses bytes wanted largest =
      ((class : ℕ) × IsLeast bytes class × AtClass (LacksObject wanted largest) class)
      ⊎ ((largest_size < bytes) × AtPages (Take (pages_for bytes) false) (Lacks wanted largest))

  -- the chunk of this many bytes at this word is taken back
  abbrev pub TakesBack : ℕ → ℕ → Type 0
  TakesBack at bytes =
      ((class : ℕ) × (class_size class ≡ bytes) × AtClass (TakesObject at bytes) class)
      ⊎ ((largest_size < bytes) × (bytes % page_bytes ≡ 0) × AtPages (Give at (bytes / page_bytes) false) Accepts)

  -- it is handed back: no such object is live, or no such pages are granted; or these bytes are no chunk's
  abbrev pub HandsItBack : ℕ → ℕ → Type 0
  HandsItBack at bytes =
      ((class : ℕ) × (class_size class ≡ bytes) × AtClass (IsNoObject at bytes) class)
      ⊎ (((largest_size < bytes) × (bytes % page_bytes ≡ 0) × AtPages (Give at (bytes / page_bytes) false) HandsBack)
      ⊎ ((after ≡ before) × ((class : ℕ) → IsClass class → class_size class ≢ bytes) × (largest_size < bytes → bytes % page_bytes ≢ 0)))

-- what a call of any caller may reply, and what it does to the state. A reply of another call never comes
abbrev pub IsLegal : AreaName → ℕ → AreaState → AreaCall → AreaReply → AreaState → Type 0
IsLegal n caller before (Request bytes) (Granted at) after = Grants n before after bytes at
IsLegal n caller before (Request bytes) (Refused wanted largest) after = Refuses n before after bytes wanted largest
IsLegal n caller before (Return at bytes) TakenBack after = TakesBack n before after at bytes
IsLegal n caller before (Return at bytes) HandedBack after = HandsItBack n before after at bytes
IsLegal n caller before (TrimClass class) Trimmed after = AtClass n before after TrimsPool class
IsLegal n caller before (TrimClass class) Untrimmed after = AtClass n before after KeepsPool class
IsLegal n caller before LookAt (Seen used largest) after = AtPages n before after Look (Shows used largest)
IsLegal n caller before call reply after = ⊥
