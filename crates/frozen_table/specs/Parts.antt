-- The partitions of a table that was closed, and what lists their entries.
use Rattle.std.specs.Prelude.{◌≡◌, ℕ, List, [], All, Some, get_or, length, slice_get}
use Rattle.std.specs.FinMap as fin
use Rattle.atomic_table.specs.Seated.{TableId}
use Rattle.lock_book.specs.declared.view.Entry.{Entry}
use Rattle.dshash_core.specs.Cells.{KeyMap, PartitionView}
use Rattle.dshash_core.specs.Outcome.{ListsAll}
use Rattle.dshash_parts.specs.Ending.{IsAt}
use Rattle.dshash_parts.specs.States.{PartitionState}
use Rattle.dshash_parts.specs.Tables.{map_at}
use Rattle.dshash_parts.specs.declared.histories.PartitionCalls.{PartitionCalls}
use Rattle.dshash_parts.specs.declared.histories.PartitionReplies.{PartitionReplies}
use Rattle.dshash_parts.specs.declared.table.Dshash.{Dshash}

-- there are 128 partitions, and each has the map of its number
pub record HaveMaps {S : Type 0} (maps : ℕ → KeyMap S) (parts : List (PartitionView S)) : Type 0 where
  pub count : length parts ≡ 128
  pub each : (i : ℕ) (p : PartitionView S) → slice_get parts i ≡ Some p → p.cells ≡ maps i

-- all partitions of a table in this region, in order of their numbers, each with the last state of its history
pub record AreParts {O S C R : Type 0} (region : TableId) (t : Dshash O S C R) (history : ℕ → List (Entry (PartitionState S) (PartitionCalls C) (PartitionReplies S R))) (parts : List (PartitionView S)) : Type 0 where
  pub maps : HaveMaps (map_at history) parts
  pub here : All (λ p. p.region ≡ region) parts
  pub each : (i : ℕ) (p : PartitionView S) → slice_get parts i ≡ Some p → IsAt region t i (history i) p

-- the lists have the entries of as many partitions, each entry once
pub record AreListed {S : Type 0} (parts : List (PartitionView S)) (lists : List (List (List ℕ × S))) : Type 0 where
  pub count : length lists ≡ length parts
  pub each : (i : ℕ) (p : PartitionView S) (list : List (List ℕ × S)) → slice_get parts i ≡ Some p → slice_get lists i ≡ Some list → ListsAll p.cells list

-- there are 128 partitions, and these are lists of their entries
pub record AreFrozen {S : Type 0} (parts : List (PartitionView S)) (lists : List (List (List ℕ × S))) : Type 0 where
  pub whole : length parts ≡ 128
  pub listed : AreListed parts lists

-- there are 128 lists, and each has the entries of the map of its number, each once
pub record ListMaps {S : Type 0} (maps : ℕ → KeyMap S) (lists : List (List (List ℕ × S))) : Type 0 where
  pub count : length lists ≡ 128
  pub each : (i : ℕ) (list : List (List ℕ × S)) → slice_get lists i ≡ Some list → ListsAll (maps i) list

-- the map of the entries of the list of this number
abbrev pub map_in : {S : Type 0} → List (List (List ℕ × S)) → ℕ → KeyMap S
map_in lists number = fin.from_entries (get_or lists number [])
