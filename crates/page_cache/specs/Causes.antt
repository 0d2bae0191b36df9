-- Why a page was not put, and that an entry was evicted for another.
use Rattle.std.specs.Prelude.{◌≡◌, ◌⊎◌, ◌+◌, ◌<◌, ◌≤◌, ℕ, Bool, List, [], ◌∷◌, ◌++◌, true, is_some}
use Rattle.std.specs.FinMap as fin
use Rattle.lock_book.specs.Shown.{number_of, seen_of}
use Rattle.dsa_area.specs.Requests.{IsRefused}
use Rattle.dsa_area.specs.declared.area.Area.{Area}
use Rattle.dsa_area.specs.declared.area.AreaPass.{AreaPass}
use Rattle.dshash_core.specs.Key.{hash_of}
use Rattle.dshash_core.specs.Cells.{partition_of}
use Rattle.dshash_chunks.specs.declared.held.Held.{Held}
use Rattle.dshash_chunks.specs.declared.held.ChunkCalls.TheVariants.{Put}
use Rattle.dshash_parts.specs.Promises.{IsRefusedWith}
use Rattle.dshash_parts.specs.Tables.{map_at}
use Rattle.dshash_parts.specs.Traces.{Asked, Gave, Got, Trace}
use Rattle.chunk_table.specs.Tables.{item_of, sight_of}
use Rattle.page_cache.specs.Pages.{read, stepped}
use Rattle.page_cache.specs.Tickets.{CacheEvent, CacheHistories, counted, makes, takes}
use Rattle.page_cache.specs.declared.cache.Cache.{Cache}
use Rattle.page_cache.specs.declared.cache.Seat.{Seat}
use Rattle.page_cache.specs.declared.calls.NotPut.{NotPut}
use Rattle.page_cache.specs.declared.calls.NotPut.TheVariants.{NoSpace, NoneToEvict, Memory}
use Rattle.page_cache.specs.declared.page.Page.{Page}

-- the area refused a chunk for a page, with these two numbers
abbrev pub IsNoRoom : Area → AreaPass → AreaPass → NotPut → Type 0
IsNoRoom a before after (NoSpace pages largest) = IsRefused a before after 8192 pages largest
IsNoRoom a before after why = ⊥

-- The area granted a chunk for the page, and then refused what the table needed to take it, with these two numbers, for
-- which there was cause. The chunk went back
pub record IsTurnedAway (c : Cache) (before after : Seat) (name : List ℕ) (page : Page) (pages largest : ℕ) : Type 0 where
  pub chunk : Held
  pub is_page : read chunk.words ≡ page
  pub events : List CacheEvent
  pub accepted : Bool
  pub refused : IsRefusedWith (partition_of (hash_of name)) (item_of c.table) name (Put chunk) (is_some before.spare) pages largest events
  pub trace : Trace stepped c.area (number_of before.pass) (sight_of before.pass before.apass) (sight_of after.pass after.apass) (Asked (Got 8192) ∷ events ++ Asked (Gave chunk.bytes accepted) ∷ [])

-- The area refused a request, for the page or for the table; or the caller had no ticket, and each partition had no
-- entry when it was last seen; or there was no memory for a name
abbrev pub IsCause : Cache → Seat → Seat → List ℕ → Page → NotPut → Type 0
IsCause c before after name page (NoSpace pages largest) = IsNoRoom c.area before.apass after.apass (NoSpace pages largest) ⊎ IsTurnedAway c before after name page pages largest
IsCause c before after name page NoneToEvict = (after.tickets ≡ 0) × ((k : ℕ) → k < 128 → fin.len (map_at (seen_of after.pass) k) ≡ 0)
IsCause c before after name page Memory = after.tickets ≡ 0

-- between these two points of its life the caller took out at least as many entries as it made
abbrev pub Evicts : CacheHistories → CacheHistories → Type 0
Evicts before after = counted makes after + counted takes before ≤ counted makes before + counted takes after

-- a caller that evicted an entry brings its item: so what the table needed and the area refused was the slice of a
-- partition that has to grow
abbrev pub BringsItem : Seat → NotPut → Type 0
BringsItem before (NoSpace pages largest) = is_some before.spare ≡ true
BringsItem before why = Unit {0}
