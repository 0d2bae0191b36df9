-- Chunks that come out of the cache go back to the area.
use Rattle.std.specs.Prelude.{◌≡◌, ◌⊎◌, ℕ, List, [], ◌∷◌, Option, Some, None}
use Rattle.dsa_area.specs.declared.area.Area.{Area}
use Rattle.dshash_chunks.specs.declared.held.Held.{Held}
use Rattle.dshash_chunks.specs.declared.held.ChunkReplies.TheVariants.{Was}
use Rattle.dshash_parts.specs.Traces.{Turn, Asked, Gave}
use Rattle.dshash_parts.specs.declared.histories.PartitionCalls.TheVariants.{Call}
use Rattle.dshash_parts.specs.declared.histories.PartitionReplies.TheVariants.{Made}
use Rattle.page_cache.specs.Tickets.{Answers, Asks, CacheEvent, CacheSight, HasPaid}

-- the chunk that a turn hands to its caller, if any: of a page that was evicted, or of one that another was put over
abbrev pub handed : Asks → Answers → Option Held
handed (Call name call spare) (Made (Was held) unused freed) = held
handed call reply = None

-- these events begin with chunks that are given to the area, and such a chunk is among them
abbrev pub IsGivenFirst : Held → List CacheEvent → Type 0
IsGivenFirst h (Asked (Gave bytes accepted) ∷ es) = (bytes ≡ h.bytes) ⊎ IsGivenFirst h es
IsGivenFirst h es = ⊥

-- the same if there is a chunk
abbrev pub GoesBack : Option Held → List CacheEvent → Type 0
GoesBack (Some h) es = IsGivenFirst h es
GoesBack None es = Unit {0}

-- each chunk that these events hand to their caller is given to the area before the caller does anything else
abbrev pub AllGoBack : List CacheEvent → Type 0
AllGoBack [] = Unit {0}
AllGoBack (Turn number call reply ∷ es) = GoesBack (handed call reply) es × AllGoBack es
AllGoBack (Asked request ∷ es) = AllGoBack es

-- a caller between two calls of the cache: it has paid for the entries that it made, and holds no chunk of a page
pub record IsSettled (a : Area) (caller share : ℕ) (now : CacheSight) (tickets : ℕ) : Type 0 where
  pub paid : HasPaid a caller share now tickets
  pub back : AllGoBack paid.life
