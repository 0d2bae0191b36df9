-- What a closed table of chunks shows.
use Rattle.std.specs.Prelude.{◌≡◌, ℕ, ◌<◌, ◌≤◌, List, [], Option}
use mathlib.Core.Option.{some}
use lib.ListN.{get_elem?}
use Rattle.atomic_table.specs.Seated.{TableId}
use Rattle.lock_book.specs.declared.kept.Kept.{Ghosts}
use Rattle.lock_book.specs.declared.shelf.Pass.{Pass}
use Rattle.lock_book.specs.declared.view.Entry.{Entry}
use Rattle.lock_book.specs.History.{StartsWith, IsLegal, calls_by, last_of}
use Rattle.lock_book.specs.Shown as shelf
use Rattle.lock_book.specs.Shown.{seen_of, mine_of}
use Rattle.dshash_core.specs.Cells.{PartitionView}
use Rattle.dshash_chunks.specs.declared.held.Held.{Held}
use Rattle.dshash_chunks.specs.declared.held.ChunkCalls.{ChunkCalls}
use Rattle.dshash_chunks.specs.declared.held.ChunkReplies.{ChunkReplies}
use Rattle.dshash_parts.specs.States.{PartitionState, fresh}
use Rattle.dshash_parts.specs.Asked.{name_of, state_of}
use Rattle.dshash_parts.specs.Legal.{PartitionLegal}
use Rattle.dshash_parts.specs.declared.histories.PartitionName.{PartitionName}
use Rattle.dshash_parts.specs.declared.histories.PartitionCalls.{PartitionCalls}
use Rattle.dshash_parts.specs.declared.histories.PartitionReplies.{PartitionReplies}
use Rattle.chunk_table.specs.Tables.{callers_of, name_in}
use Rattle.chunk_table.specs.declared.asks.ChunkAsk.{ChunkAsk}
use Rattle.chunk_table.specs.declared.asks.ChunkAnswer.{ChunkAnswer}
use Rattle.chunk_table.specs.declared.locked.Locked.{Locked}
use Rattle.chunk_table.specs.declared.table.ChunkTable.{ChunkTable}
use Rattle.chunk_table.specs.declared.close.ClosedChunks.{ClosedChunks}

-- g are the meanings of the locked partitions' members
module _ {W C R : Type 0} {g : Ghosts (Locked W C R) TableId (ChunkAsk W C R) (ChunkAnswer W C R) PartitionName (PartitionState Held) (PartitionCalls (ChunkCalls C)) (PartitionReplies Held (ChunkReplies R))} where
  -- how many partitions a closed table has left
  abbrev pub left_of : ClosedChunks W C R TableId (ChunkAsk W C R) (ChunkAnswer W C R) PartitionName (PartitionState Held) (PartitionCalls (ChunkCalls C)) (PartitionReplies Held (ChunkReplies R)) g → ℕ
  left_of c = shelf.left_of c.shelf

  -- the whole history of a partition of a closed table
  abbrev pub whole_of : ClosedChunks W C R TableId (ChunkAsk W C R) (ChunkAnswer W C R) PartitionName (PartitionState Held) (PartitionCalls (ChunkCalls C)) (PartitionReplies Held (ChunkReplies R)) g → ℕ → List (Entry (PartitionState Held) (PartitionCalls (ChunkCalls C)) (PartitionReplies Held (ChunkReplies R)))
  whole_of c number = shelf.whole_of c.shelf number

  -- the partitions of the closed table opened as those of this table, which is in this region, did
  pub record IsOf (region : TableId) (t : ChunkTable W C R) (c : ClosedChunks W C R TableId (ChunkAsk W C R) (ChunkAnswer W C R) PartitionName (PartitionState Held) (PartitionCalls (ChunkCalls C)) (PartitionReplies Held (ChunkReplies R)) g) : Type 0 where
    pub few : left_of c ≤ 128
    pub parts : (i : ℕ) → i < 128 → get_elem? (shelf.opened_of c.shelf) i ≡ some (name_in region t i, fresh)

  -- The table with these passes was closed. Each partition's whole history is legal and begins with what each pass had
  -- seen; the entries of a caller are the own calls of its pass, and there are no others
  pub record Ended (step : Option Held → ChunkCalls C → Option Held × ChunkReplies R) (t : ChunkTable W C R) (passes : List (Pass (Locked W C R) TableId (ChunkAsk W C R) (ChunkAnswer W C R) PartitionName (PartitionState Held) (PartitionCalls (ChunkCalls C)) (PartitionReplies Held (ChunkReplies R)) g)) (c : ClosedChunks W C R TableId (ChunkAsk W C R) (ChunkAnswer W C R) PartitionName (PartitionState Held) (PartitionCalls (ChunkCalls C)) (PartitionReplies Held (ChunkReplies R)) g) : Type 0 where
    pub lawful : (i : ℕ) → i < 128 → IsLegal (λ _. PartitionLegal step i) fresh (whole_of c i)
    pub begins : (n i : ℕ) (p : _) → get_elem? passes n ≡ some p → StartsWith (whole_of c i) (seen_of p i)
    pub mine : (n i : ℕ) (p : _) → get_elem? passes n ≡ some p → calls_by n (whole_of c i) ≡ mine_of p i
    pub no_others : (i n : ℕ) → callers_of t ≤ n → calls_by n (whole_of c i) ≡ []

-- the partition of this number of a table, with the last state of its history: a chunk under each key, with its words
pub record IsAt {W C R : Type 0} (region : TableId) (t : ChunkTable W C R) (number : ℕ) (history : List (Entry (PartitionState Held) (PartitionCalls (ChunkCalls C)) (PartitionReplies Held (ChunkReplies R)))) (p : PartitionView Held) : Type 0 where
  pub name : name_of number p ≡ name_in region t number
  pub state : state_of p ≡ last_of fresh history
