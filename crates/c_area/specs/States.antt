-- The states of an area, its calls and its replies.
use Rattle.std.specs.Prelude.{ℕ, ◌-◌, List, [], None, slice_index_or, refl}
use Rattle.std.specs.Coded.{Coded, code_by, coded×, coded_list}
use Rattle.size_classes.specs.Classes.{first_class}
use Rattle.free_pages.specs.Legal.{PagesState}
use Rattle.free_pages.specs.PagesView.{pages_state_code}
use Rattle.span_pools.specs.Legal.{PoolState}
use Rattle.span_pools.specs.PoolView.{pool_state_code}

-- the state: the pages, and the pools of the size classes in order
pub record AreaState : Type 0 where
  pub pages : PagesState
  pub pools : List PoolState

-- the code by which proofs distinguish states
abbrev pub area_state_code : Coded AreaState
area_state_code = code_by (PagesState × List PoolState) (coded× pages_state_code (coded_list pool_state_code)) (λ s. (s.pages, s.pools)) (λ p. record { pages = p.0; pools = p.1 }) (λ _. refl)

-- a pool without a superblock
abbrev pub no_superblock : PoolState
no_superblock = record { spans = []; active = None }

-- the pool of a size class
abbrev pub pool_of : AreaState → ℕ → PoolState
pool_of s class = slice_index_or s.pools (class - first_class) no_superblock

-- a call: a chunk for this many bytes; a chunk that comes back, by its first word and its bytes; the active superblock
-- of a class, if nothing in it is live; a look at how many pages are granted
pub data AreaCall : Type 0 where
  Request : ℕ → AreaCall
  Return : ℕ → ℕ → AreaCall
  TrimClass : ℕ → AreaCall
  LookAt : AreaCall

-- a reply: the first word of the chunk that is granted; or the pages that were wanted, and the longest run of free ones;
-- the chunk is taken back; or it is handed back; a superblock went to the pages; or none did; or the pages that are
-- granted, and the longest run of free ones
pub data AreaReply : Type 0 where
  Granted : ℕ → AreaReply
  Refused : ℕ → ℕ → AreaReply
  TakenBack : AreaReply
  HandedBack : AreaReply
  Trimmed : AreaReply
  Untrimmed : AreaReply
  Seen : ℕ → ℕ → AreaReply
