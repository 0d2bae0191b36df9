-- Moments of the cache: how many entries there are.
use Rattle.std.specs.Prelude.{◌≡◌, ℕ, ◌*◌, ◌<◌, ◌≤◌, List, [], ◌++◌}
use Rattle.std.specs.FinMap as fin
use Rattle.lock_book.specs.History.{calls_by, IsLegal}
use Rattle.dsa_area.specs.declared.area.Area.{Area}
use Rattle.dshash_parts.specs.Legal.{PartitionLegal}
use Rattle.dshash_parts.specs.States.{fresh}
use Rattle.dshash_parts.specs.Tables.{map_at}
use Rattle.page_cache.specs.Pages.{stepped}
use Rattle.page_cache.specs.Tickets.{CacheEvent, CacheHistories, CacheSight, HasPaid, sum_below}

-- how many entries the partitions have after these histories
abbrev pub entries_of : CacheHistories → ℕ
entries_of histories = sum_below 128 (λ i. fin.len (map_at histories i))

-- At a moment of a cache each partition has had a legal history. It has the calls that each caller has made until then,
-- for each of which it has paid, and no others
pub record IsMoment (a : Area) (callers share : ℕ) (histories : CacheHistories) : Type 0 where
  pub lawful : (i : ℕ) → i < 128 → IsLegal (λ _. PartitionLegal stepped i) fresh (histories i)
  pub no_others : (i n : ℕ) → i < 128 → callers ≤ n → calls_by n (histories i) ≡ []
  pub paid : (n : ℕ) → n < callers → (now : CacheSight) × (tickets : ℕ) × HasPaid a n share now tickets × ((i : ℕ) → i < 128 → calls_by n (histories i) ≡ now.mine i)

-- at no moment are there more entries than the callers' shares
abbrev pub NeverMore : Type 0
NeverMore = (a : Area) (callers share : ℕ) (histories : CacheHistories) → IsMoment a callers share histories → entries_of histories ≤ callers * share

-- a caller that has paid has done so at each event of its life
abbrev pub AlwaysPaid : Type 0
AlwaysPaid = (a : Area) (caller share : ℕ) (now : CacheSight) (tickets : ℕ) (x : HasPaid a caller share now tickets) (past rest : List CacheEvent) → x.life ≡ past ++ rest
    → (then : CacheSight) × (left : ℕ) × (y : HasPaid a caller share then left) × (y.life ≡ past)
