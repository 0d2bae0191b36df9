-- A table of numbers of one caller as a map, and what calls make of it. The map is read off the table's pass: each of
-- the 128 partitions has the map after all turns that the pass has seen.
use Rattle.std.specs.Prelude.{◌≡◌, ◌≢◌, ℕ, ◌<◌, List, [], length, Option}
use Rattle.std.specs.List.{sum_by}
use Rattle.std.specs.FinMap as fin
use Rattle.atomic_table.specs.Seated.{TableId}
use Rattle.lock_book.specs.Shown.{seen_of}
use Rattle.dsa_area.specs.declared.area.Area.{Area}
use Rattle.dsa_area.specs.declared.area.AreaPass.{AreaPass}
use Rattle.dshash_core.specs.Cells.{KeyMap, partition_of}
use Rattle.dshash_core.specs.Key.{hash_of}
use Rattle.dshash_core.specs.Outcome.{changed}
use Rattle.dshash_parts.specs.Promises.{CallMade, CallRefused}
use Rattle.dshash_parts.specs.Tables.{Belongs, IsHome, IsTable, callers_of, item_of, key_words_of, map_at}
use Rattle.dshash_scan.specs.Listings.{ListsTable}
use Rattle.dshash_numbers.specs.Numbers.{after, stepped}
use Rattle.dshash_numbers.specs.declared.number.NumberCall.{NumberCall}
use Rattle.dshash_numbers.specs.declared.table.NumberTable.{NumberTable}

-- a table of the region whose keys are packed byte strings and whose items have one word for the number; its one caller
-- has the pass
pub record IsNumberTable (region : TableId) (t : NumberTable) : Type 0 where
  pub table : IsTable region t.table
  pub keys : key_words_of t.table ≡ 32
  pub items : item_of t.table ≡ 280
  pub own : Belongs t.table t.pass
  pub alone : callers_of t.table ≡ 1

-- the table was made with this area
abbrev pub ComesFrom : Area → NumberTable → Type 0
ComesFrom a t = IsHome a t.table

-- the map of a partition
abbrev pub map_of : NumberTable → ℕ → KeyMap ℕ
map_of t number = map_at (seen_of t.pass) number

-- the number of a key's partition
abbrev pub home_of : List ℕ → ℕ
home_of key = partition_of (hash_of key)

-- the number under a key, if any
abbrev pub under : NumberTable → List ℕ → Option ℕ
under t key = fin.get (map_of t (home_of key)) key

-- the table's pass has seen nothing, so all maps are empty
abbrev pub IsNew : NumberTable → Type 0
IsNew t = (number : ℕ) → seen_of t.pass number ≡ []

-- the maps of t' are those of t
abbrev pub MapsStay : NumberTable → NumberTable → Type 0
MapsStay t t' = (number : ℕ) → number < 128 → map_of t' number ≡ map_of t number

-- a table t and its caller's pass u of the area a become t' and u'
module _ (a : Area) (t t' : NumberTable) (u u' : AreaPass) where
  -- A call of a key was made, with this reply: the number before. The key's partition has the map that the call makes
  -- of it, and no other changes; and the events are those of one call of the table
  pub record IsMade (key : List ℕ) (call : NumberCall) (before : Option ℕ) : Type 0 where
    pub same : t'.table ≡ t.table
    pub was : before ≡ under t key
    pub here : map_of t' (home_of key) ≡ changed (map_of t (home_of key)) key (after before call)
    pub others : (number : ℕ) → number < 128 → number ≢ home_of key → map_of t' number ≡ map_of t number
    pub events : CallMade stepped t.table a t.pass u t'.pass u' key call before

  -- A call was refused: the area had no item for the key, or no slice for a partition, with these two numbers
  pub record IsRefused (key : List ℕ) (call : NumberCall) (wanted largest : ℕ) : Type 0 where
    pub same : t'.table ≡ t.table
    pub stays : MapsStay t t'
    pub events : CallRefused stepped t.table a t.pass u t'.pass u' key call wanted largest

-- A table t becomes t' by a listing of each partition; its entries, each once, are this many, and their numbers have
-- this sum
pub record IsTotal (t t' : NumberTable) (count sum : ℕ) : Type 0 where
  pub same : t'.table ≡ t.table
  pub pairs : List (List ℕ × ℕ)
  pub lists : ListsTable stepped t.pass t'.pass pairs
  pub counted : count ≡ length pairs
  pub summed : sum ≡ sum_by (λ pair. pair.1) pairs
  pub stays : MapsStay t t'
