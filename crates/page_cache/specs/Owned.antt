-- What is under a name, as a caller has seen it, and what its owner put there.
use Rattle.std.specs.Prelude.{◌≡◌, ◌⊎◌, ℕ, Bool, List, [], ◌∷◌, Option, Some, None}
use Rattle.std.specs.FinMap as fin
use Rattle.dshash_core.specs.Key.{hash_of}
use Rattle.dshash_core.specs.Cells.{partition_of}
use Rattle.dshash_chunks.specs.declared.held.Held.{Held}
use Rattle.dshash_chunks.specs.declared.held.ChunkCalls.TheVariants.{Put, Take, With}
use Rattle.dshash_chunks.specs.declared.held.ChunkReplies.TheVariants.{Was}
use Rattle.dshash_parts.specs.Tables.{map_at}
use Rattle.dshash_parts.specs.Replays.{calls_of_key, made_of}
use Rattle.dshash_parts.specs.declared.histories.PartitionCalls.TheVariants.{Call}
use Rattle.dshash_parts.specs.declared.histories.PartitionReplies.TheVariants.{Made}
use Rattle.page_cache.specs.Pages.{read, shown}
use Rattle.page_cache.specs.Tickets.{CacheCall, CacheEntry, CacheHistories, CacheReply}
use Rattle.page_cache.specs.declared.page.Page.{Page}

-- the page under a name after all that was seen
abbrev pub under : CacheHistories → List ℕ → Option Page
under seen name = shown (fin.get (map_at seen (partition_of (hash_of name))) name)

-- the page that a call puts, if any
abbrev pub put_by : CacheCall → Option Page
put_by (Put h) = Some (read h.words)
put_by Take = None
put_by (With call) = None

-- the first if there is one, and else the second
abbrev pub newer : Option Page → Option Page → Option Page
newer (Some page) old = Some page
newer None old = old

-- the last page that these calls put, or the one of before
abbrev pub last_put : Option Page → List (CacheCall × CacheReply) → Option Page
last_put page [] = page
last_put page (made ∷ rest) = last_put (newer (put_by made.0) page) rest

-- the last page that a caller's own calls put under a name
abbrev pub own_page : CacheHistories → List ℕ → Option Page
own_page mine name = last_put None (calls_of_key name (mine (partition_of (hash_of name))))

-- the entry is the eviction of the name's page, by any caller
pub record IsEviction (name : List ℕ) (e : CacheEntry) : Type 0 where
  pub held : Held
  pub spare : Bool
  pub unused : Bool
  pub freed : Bool
  pub call : e.call ≡ Call name Take spare
  pub reply : e.reply ≡ Made (Was (Some held)) unused freed

-- none of these entries puts a page under the name
abbrev pub NonePut : List ℕ → List CacheEntry → Type 0
NonePut name [] = Unit {0}
NonePut name (e ∷ es) = (last_put None (made_of name e.call e.reply) ≡ None) × NonePut name es

-- the name's page was evicted, and none was put there since
abbrev pub WasEvicted : List ℕ → List CacheEntry → Type 0
WasEvicted name [] = ⊥
WasEvicted name (e ∷ es) = (IsEviction name e × NonePut name es) ⊎ WasEvicted name es

-- What is under a name is what its owner's calls put there last; or nothing, since that was evicted
abbrev pub IsKept : CacheHistories → CacheHistories → List ℕ → Option Page → Type 0
IsKept seen mine name page = (page ≡ own_page mine name) ⊎ ((page ≡ None) × WasEvicted name (seen (partition_of (hash_of name))))
