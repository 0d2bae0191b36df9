-- The entries of a closed table, and a map to which they were added.
use Rattle.std.specs.Prelude.{◌≡◌, ◌<◌, ◌≤◌, ℕ, List, [], All, IsTrue, None, Some, fold, length, map as map_list, slice_get}
use Rattle.std.specs.FinMap as map
use Rattle.agg_cell.specs.Called.{Seen, stands}
use Rattle.agg_cell.specs.Cell.{stepped}
use Rattle.dshash_core.specs.Cells.{KeyMap}
use Rattle.dshash_core.specs.Key.{IsPackedKey, packed_key}
use Rattle.dshash_parts.specs.Legal.{PartitionLegal}
use Rattle.dshash_parts.specs.States.{fresh}
use Rattle.lock_book.specs.History.{IsLegal, calls_by}
use Rattle.par_model.specs.declared.state.AggState.{AggState}
use Rattle.partial_agg.specs.Groups.{GroupsByKey, added}
use Rattle.partial_agg.specs.Laws.{both}
use Rattle.rel_pointer.specs.Bytes.{AllBytes}
use Rattle.agg_table.specs.Calls.{Group, IsKeyed, called, calls_at, done_in}

-- A table with these histories of its partitions has just what the participants put in, `puts` by their numbers. Each
-- history is legal; the calls that a participant made at a partition are those of its groups there, in order; and
-- nobody else has an entry
pub record HoldsAll (history : Seen) (puts : List (List Group)) : Type 0 where
  pub lawful : (i : ℕ) → i < 128 → IsLegal (λ _. PartitionLegal stepped i) fresh (history i)
  pub keyed : (k : ℕ) (put : List Group) → slice_get puts k ≡ Some put → All IsKeyed put
  pub done : (k i : ℕ) (put : List Group) → slice_get puts k ≡ Some put → i < 128 → done_in (calls_by k (history i)) ≡ calls_at i put
  pub no_others : (k i : ℕ) → length puts ≤ k → i < 128 → calls_by k (history i) ≡ []

-- The state under each key of the table was added to the map g once, which gives h: a key of the table has what it had
-- in g and that state, combined, and a key that isn't in the table has what it had
pub record AddsTable (history : Seen) (g h : GroupsByKey) : Type 0 where
  pub each : (key : List ℕ) → AllBytes key → length key ≤ 248 → map.get h key ≡ both (map.get g key) (stands history (packed_key key))
  pub rest : (key : List ℕ) → (AllBytes key → length key ≤ 248 → stands history (packed_key key) ≡ None) → map.get h key ≡ map.get g key

-- ---- one partition

-- each key that has a state is that of a byte string
abbrev pub ArePacked : KeyMap AggState → Type 0
ArePacked cells = (key : List ℕ) → IsTrue (map.contains_key cells key) → IsPackedKey key

-- as AddsTable, for the keys of one partition only
pub record AddsCells (cells : KeyMap AggState) (g h : GroupsByKey) : Type 0 where
  pub each : (key : List ℕ) → AllBytes key → length key ≤ 248 → map.get h key ≡ both (map.get g key) (map.get cells (packed_key key))
  pub rest : (key : List ℕ) → (AllBytes key → length key ≤ 248 → map.get cells (packed_key key) ≡ None) → map.get h key ≡ map.get g key

-- the map after some groups, in order
abbrev pub with_each : GroupsByKey → List Group → GroupsByKey
with_each groups more = fold (λ so_far group. added so_far group.0 group.1) groups more

-- these entries were added to the map g, each once, which gives h
pub record AddsEntries (entries : List (List ℕ × AggState)) (g h : GroupsByKey) : Type 0 where
  pub groups : List Group
  pub keyed : All IsKeyed groups
  pub are : entries ≡ map_list called groups
  pub adds : h ≡ with_each g groups
