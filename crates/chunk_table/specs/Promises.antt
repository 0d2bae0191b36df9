-- What a put promises, as a fact of the events that it made, in order: the promises of dshash_parts for any call of a
-- key, of a put.
use Rattle.std.specs.Prelude.{ℕ, Bool, false, List, Option}
use Rattle.atomic_table.specs.Seated.{TableId}
use Rattle.lock_book.specs.declared.kept.Kept.{Ghosts}
use Rattle.lock_book.specs.declared.shelf.Pass.{Pass}
use Rattle.lock_book.specs.Shown.{number_of, seen_of}
use Rattle.dsa_area.specs.declared.area.Area.{Area}
use Rattle.dsa_area.specs.declared.area.AreaPass.{AreaPass}
use Rattle.dshash_core.specs.Key.{hash_of}
use Rattle.dshash_core.specs.Cells.{partition_of}
use Rattle.dshash_chunks.specs.declared.held.Held.{Held}
use Rattle.dshash_chunks.specs.declared.held.ChunkCalls.{ChunkCalls}
use Rattle.dshash_chunks.specs.declared.held.ChunkReplies.{ChunkReplies}
use Rattle.dshash_parts.specs.States.{PartitionState}
use Rattle.dshash_parts.specs.Promises.{AllGrew, IsMadeWith, IsRefusedWith}
use Rattle.dshash_parts.specs.Traces.{Event, Trace}
use Rattle.dshash_parts.specs.declared.histories.PartitionName.{PartitionName}
use Rattle.dshash_parts.specs.declared.histories.PartitionCalls.{PartitionCalls}
use Rattle.dshash_parts.specs.declared.histories.PartitionReplies.{PartitionReplies}
use Rattle.chunk_table.specs.declared.asks.ChunkAsk.{ChunkAsk}
use Rattle.chunk_table.specs.declared.asks.ChunkAnswer.{ChunkAnswer}
use Rattle.chunk_table.specs.declared.locked.Locked.{Locked}
use Rattle.chunk_table.specs.declared.table.ChunkTable.{ChunkTable}
use Rattle.chunk_table.specs.Tables.{item_of, sight_of}

-- the caller's passes of the table and of its area, p and u, are q and w after a call of a key
module _ {W C R : Type 0} {g : Ghosts (Locked W C R) TableId (ChunkAsk W C R) (ChunkAnswer W C R) PartitionName (PartitionState Held) (PartitionCalls (ChunkCalls C)) (PartitionReplies Held (ChunkReplies R))} (step : Option Held → ChunkCalls C → Option Held × ChunkReplies R) (t : ChunkTable W C R) (a : Area) (p : Pass (Locked W C R) TableId (ChunkAsk W C R) (ChunkAnswer W C R) PartitionName (PartitionState Held) (PartitionCalls (ChunkCalls C)) (PartitionReplies Held (ChunkReplies R)) g) (u : AreaPass) (q : Pass (Locked W C R) TableId (ChunkAsk W C R) (ChunkAnswer W C R) PartitionName (PartitionState Held) (PartitionCalls (ChunkCalls C)) (PartitionReplies Held (ChunkReplies R)) g) (w : AreaPass) (key : List ℕ) (call : ChunkCalls C) where
  -- the events of the call, which got this reply; if the key's partition had to grow, all partitions have. `held` and
  -- `kept` say whether the caller had a spare item before and has one after
  abbrev pub CallMadeWith : Bool → Bool → ChunkReplies R → Type 0
  CallMadeWith held kept reply = (es : List (Event Held (ChunkCalls C) (ChunkReplies R))) × IsMadeWith (partition_of (hash_of key)) (item_of t) key call held kept reply es × Trace step a (number_of p) (sight_of p u) (sight_of q w) es × AllGrew (partition_of (hash_of key)) (item_of t) key call es (seen_of q)

  -- the events of the call, which was refused with these two numbers
  abbrev pub CallRefusedWith : Bool → ℕ → ℕ → Type 0
  CallRefusedWith held wanted largest = (es : List (Event Held (ChunkCalls C) (ChunkReplies R))) × IsRefusedWith (partition_of (hash_of key)) (item_of t) key call held wanted largest es × Trace step a (number_of p) (sight_of p u) (sight_of q w) es

  -- both for a caller that has no spare item
  abbrev pub CallMade : ChunkReplies R → Type 0
  CallMade reply = CallMadeWith false false reply

  abbrev pub CallRefused : ℕ → ℕ → Type 0
  CallRefused wanted largest = CallRefusedWith false wanted largest
