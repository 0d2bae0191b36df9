-- What a pool answers, as a relation of the state before, the call, the reply and the state after. Source: dsa.c
-- (`alloc_object`, `ensure_active_superblock`, `dsa_free`), except for its fullness classes: here any superblock that
-- has a free object may serve, and only the active one comes first.
use Rattle.std.specs.Prelude.{◌≡◌, ◌≢◌, ℕ, ◌+◌, ◌*◌, ◌<◌, ◌≤◌, ◌==◌, ◌⊎◌, Bool, true, false, cond, List, [], ◌∷◌, Option, Some, None, IsSome, length}
use Rattle.std.specs.List.{slice_get}
use Rattle.free_pages.specs.Area.{superblock_pages}
use Rattle.span_pools.specs.declared.layout.Layout.{Layout}
use Rattle.span_pools.specs.Places.{base, place, covers, object_of}

-- a superblock: the page at which it begins, and of each of its objects whether it is live (dsa_area_span of dsa.c says
-- it by a count and a list of the free objects)
pub record Span : Type 0 where
  pub page : ℕ
  pub live : List Bool

-- the state: the superblocks in the order of their pages, and the page of the active one (dsa_area_pool of dsa.c, whose
-- active superblock is the first of fullness class 1)
pub record PoolState : Type 0 where
  pub spans : List Span
  pub active : Option ℕ

-- whether object i of the superblock at page p is live, if there is such an object
abbrev pub object_at : List Span → ℕ → ℕ → Option Bool
object_at [] p i = None
object_at (s ∷ ss) p i = cond (s.page == p) (slice_get s.live i) (object_at ss p i)

-- the same of a state
abbrev pub object_in : PoolState → ℕ → ℕ → Option Bool
object_in s p i = object_at s.spans p i

-- every object of every superblock is live
abbrev pub AllLive : PoolState → Type 0
AllLive s = (p i : ℕ) → object_in s p i ≢ Some false

-- some object is free
abbrev pub HasFree : PoolState → Type 0
HasFree s = (p i : ℕ) × (object_in s p i ≡ Some false)

-- the superblock at page p has a live object
abbrev pub HasLive : PoolState → ℕ → Type 0
HasLive s p = (i : ℕ) × (object_in s p i ≡ Some true)

-- no other object than object i of page p changes, comes or goes
abbrev pub SameBut : PoolState → PoolState → ℕ → ℕ → Type 0
SameBut before after p i = (q j : ℕ) → (q ≢ p) ⊎ (j ≢ i) → object_in after q j ≡ object_in before q j

-- no object of another page changes, comes or goes
abbrev pub SameBeside : PoolState → PoolState → ℕ → Type 0
SameBeside before after p = (q j : ℕ) → q ≢ p → object_in after q j ≡ object_in before q j

-- the superblocks are in the order of their pages, from page `low` on; each has 16 of the pages and says of each of its
-- objects whether it is live, and no two have a page in common
abbrev pub AreApart : Layout → ℕ → List Span → Type 0
AreApart l low [] = Unit {0}
AreApart l low (s ∷ ss) = (low ≤ s.page) × (s.page + superblock_pages ≤ l.pages) × (length s.live ≡ l.objects) × AreApart l (s.page + superblock_pages) ss

-- What is so between two calls: the superblocks are apart, each has a live object or is the active one, and one is
-- active exactly if there is one. (In dsa.c, too, a superblock that is wholly free goes back at once, unless it is the
-- active one.)
pub record IsSettled (l : Layout) (s : PoolState) : Type 0 where
  pub apart : AreApart l 0 s.spans
  pub used : (p i : ℕ) → IsSome (object_in s p i) → (s.active ≡ Some p) ⊎ HasLive s p
  pub active : (p : ℕ) → s.active ≡ Some p → IsSome (object_in s p 0)
  pub some_active : (p i : ℕ) → IsSome (object_in s p i) → IsSome s.active

-- a call: an object; a superblock that is added, by its first word; an object that comes back, by its first word and
-- its bytes; up to this many objects; objects that come back, by their first words; the active superblock, if nothing
-- in it is live
pub data PoolCall : Type 0 where
  Alloc : PoolCall
  Add : ℕ → PoolCall
  Free : ℕ → ℕ → PoolCall
  AllocMany : ℕ → PoolCall
  FreeMany : List ℕ → PoolCall
  Trim : PoolCall

-- a reply: the first word of an object, or those of several; no object is free; what came back is free now, or nothing
-- went out; the superblock that went out, by its first word; an object is handed back
pub data PoolReply : Type 0 where
  Object : ℕ → PoolReply
  Full : PoolReply
  Kept : PoolReply
  Whole : ℕ → PoolReply
  Stranger : PoolReply
  Objects : List ℕ → PoolReply

-- a free object becomes live, of the active superblock if that has one; its superblock is the active one then
-- (`alloc_object` and `ensure_active_superblock` of dsa.c)
pub record IsAlloc (l : Layout) (before : PoolState) (at : ℕ) (after : PoolState) : Type 0 where
  pub page : ℕ
  pub index : ℕ
  pub at_is : at ≡ place l page index
  pub was_free : object_in before page index ≡ Some false
  pub is_live : object_in after page index ≡ Some true
  pub same : SameBut before after page index
  pub active : after.active ≡ Some page
  pub first : (p i : ℕ) → before.active ≡ Some p → object_in before p i ≡ Some false → p ≡ page
  pub settled : IsSettled l after

-- no object is free (when `ensure_active_superblock` of dsa.c would ask for a new superblock)
pub record IsFull (before after : PoolState) : Type 0 where
  pub all_live : AllLive before
  pub same : after ≡ before

-- A superblock comes in that was not there; one of its objects is live. It is the active one exactly if no other
-- superblock has a free object
pub record IsAdd (l : Layout) (before : PoolState) (run at : ℕ) (after : PoolState) : Type 0 where
  pub page : ℕ
  pub index : ℕ
  pub run_is : run ≡ base l page
  pub at_is : at ≡ place l page index
  pub new : (i : ℕ) → object_in before page i ≡ None
  pub is_live : object_in after page index ≡ Some true
  pub others_free : (i : ℕ) → i < l.objects → i ≢ index → object_in after page i ≡ Some false
  pub same : SameBeside before after page
  pub active : ((after.active ≡ Some page) × AllLive before) ⊎ ((after.active ≡ before.active) × (before.active ≢ Some page) × HasFree before)
  pub settled : IsSettled l after

-- a live object becomes free, and its superblock stays, since it has another live object or is the active one
-- (`dsa_free` of dsa.c)
pub record IsFreed (l : Layout) (before : PoolState) (at bytes : ℕ) (after : PoolState) : Type 0 where
  pub page : ℕ
  pub index : ℕ
  pub at_is : at ≡ place l page index
  pub bytes_is : bytes ≡ 8 * l.size
  pub was_live : object_in before page index ≡ Some true
  pub is_free : object_in after page index ≡ Some false
  pub same : SameBut before after page index
  pub active : after.active ≡ before.active
  pub settled : IsSettled l after

-- the last live object of a superblock that is not the active one becomes free, and the superblock goes out (`dsa_free`
-- of dsa.c, which calls `destroy_superblock` there)
pub record IsEmptied (l : Layout) (before : PoolState) (at bytes run : ℕ) (after : PoolState) : Type 0 where
  pub page : ℕ
  pub index : ℕ
  pub at_is : at ≡ place l page index
  pub bytes_is : bytes ≡ 8 * l.size
  pub run_is : run ≡ base l page
  pub was_live : object_in before page index ≡ Some true
  pub last : (i : ℕ) → i ≢ index → object_in before page i ≢ Some true
  pub not_active : before.active ≢ Some page
  pub gone : (i : ℕ) → object_in after page i ≡ None
  pub same : SameBeside before after page
  pub active : after.active ≡ before.active
  pub settled : IsSettled l after

-- No superblock has an object at this place and of this size, live or free (dsa.c trusts its callers; the answer is
-- ours). If a superblock has the place at all, it is inside a live object: what is handed back has no free word, and no
-- word behind the last object
pub record IsStranger (l : Layout) (before : PoolState) (at bytes : ℕ) (after : PoolState) : Type 0 where
  pub none : (p i : ℕ) → at ≡ place l p i → bytes ≡ 8 * l.size → object_in before p i ≡ None
  pub inside : (p : ℕ) → IsSome (object_in before p 0) → covers l p at ≡ true → bytes ≡ 8 * l.size → object_in before p (object_of l p at) ≡ Some true
  pub same : after ≡ before

-- objects become live one after another, in this order, each as by a separate call
abbrev pub AreAllocs : Layout → PoolState → List ℕ → PoolState → Type 0
AreAllocs l before [] after = after ≡ before
AreAllocs l before (at ∷ ats) after = (mid : PoolState) × IsAlloc l before at mid × AreAllocs l mid ats after

-- at most n objects become live; if fewer, then no other is free
pub record IsAllocMany (l : Layout) (before : PoolState) (n : ℕ) (ats : List ℕ) (after : PoolState) : Type 0 where
  pub few : length ats ≤ n
  pub each : AreAllocs l before ats after
  pub full : length ats < n → AllLive after

-- objects become free one after another, from the last of the list to its first, each as by a separate call that leaves
-- its superblock
abbrev pub AreFreed : Layout → PoolState → List ℕ → PoolState → Type 0
AreFreed l before [] after = after ≡ before
AreFreed l before (at ∷ ats) after = (mid : PoolState) × AreFreed l before ats mid × IsFreed l mid at (8 * l.size) after

-- the same, except that a superblock goes out with the first of the list, which comes back after all others
abbrev pub EndsEmptied : Layout → PoolState → List ℕ → ℕ → PoolState → Type 0
EndsEmptied l before [] run after = ⊥
EndsEmptied l before (at ∷ ats) run after = (mid : PoolState) × AreFreed l before ats mid × IsEmptied l mid at (8 * l.size) run after

-- the same, except that the first of the list is handed back
abbrev pub EndsStrange : Layout → PoolState → List ℕ → PoolState → Type 0
EndsStrange l before [] after = ⊥
EndsStrange l before (at ∷ ats) after = (mid : PoolState) × AreFreed l before ats mid × IsStranger l mid at (8 * l.size) after

-- the active superblock goes out, since nothing in it is live; if there is another superblock, one is the active one
-- then (`dsa_trim` of dsa.c gives back every empty one)
pub record IsTrim (l : Layout) (before : PoolState) (run : ℕ) (after : PoolState) : Type 0 where
  pub page : ℕ
  pub run_is : run ≡ base l page
  pub was_active : before.active ≡ Some page
  pub none_live : (i : ℕ) → object_in before page i ≢ Some true
  pub gone : (i : ℕ) → object_in after page i ≡ None
  pub same : SameBeside before after page
  pub settled : IsSettled l after

-- the active superblock has a live object, if there is one; so nothing goes out
pub record IsUntrimmed (before after : PoolState) : Type 0 where
  pub live : (p : ℕ) → before.active ≡ Some p → HasLive before p
  pub same : after ≡ before

-- what a call may reply, and what it does to the state. A reply of another call never comes
abbrev pub IsLegal : Layout → PoolState → PoolCall → PoolReply → PoolState → Type 0
IsLegal l before Alloc (Object at) after = IsAlloc l before at after
IsLegal l before Alloc Full after = IsFull before after
IsLegal l before (Add run) (Object at) after = IsAdd l before run at after
IsLegal l before (Free at bytes) Kept after = IsFreed l before at bytes after
IsLegal l before (Free at bytes) (Whole run) after = IsEmptied l before at bytes run after
IsLegal l before (Free at bytes) Stranger after = IsStranger l before at bytes after
IsLegal l before (AllocMany n) (Objects ats) after = IsAllocMany l before n ats after
IsLegal l before (FreeMany ats) Kept after = AreFreed l before ats after
IsLegal l before (FreeMany ats) (Whole run) after = EndsEmptied l before ats run after
IsLegal l before (FreeMany ats) Stranger after = EndsStrange l before ats after
IsLegal l before Trim (Whole run) after = IsTrim l before run after
IsLegal l before Trim Kept after = IsUntrimmed before after
IsLegal l before call reply after = ⊥
