-- What a contract sees of a table of chunks and of its passes.
use Rattle.std.specs.Prelude.{◌≡◌, ℕ, ◌<◌, ◌≤◌, ◌^◌, List, Option, IfSome}
use mathlib.Core.Option.{some}
use lib.ListN.{get_elem?}
use Rattle.atomic_table.specs.Seated.{TableId}
use Rattle.region_words.specs.declared.chunk.Chunk.{Chunk}
use Rattle.lock_book.specs.declared.kept.Kept.{Ghosts}
use Rattle.lock_book.specs.declared.shelf.Pass.{Pass}
use Rattle.lock_book.specs.Shown as shelf
use Rattle.lock_book.specs.Shown.{count_of, opens_of}
use Rattle.dsa_area.specs.Sizes.{chunk_size}
use Rattle.dsa_area.specs.declared.area.AreaPass.{AreaPass}
use Rattle.dshash_chunks.specs.declared.held.Held.{Held}
use Rattle.dshash_chunks.specs.declared.held.ChunkCalls.{ChunkCalls}
use Rattle.dshash_chunks.specs.declared.held.ChunkReplies.{ChunkReplies}
use Rattle.dshash_parts.specs.States.{PartitionState, fresh}
use Rattle.dshash_parts.specs.Tables.{AtPartition}
use Rattle.dshash_parts.specs.Traces.{Sight, sight}
use Rattle.dshash_parts.specs.declared.histories.PartitionName.{PartitionName}
use Rattle.dshash_parts.specs.declared.histories.PartitionCalls.{PartitionCalls}
use Rattle.dshash_parts.specs.declared.histories.PartitionReplies.{PartitionReplies}
use Rattle.chunk_table.specs.declared.asks.ChunkAsk.{ChunkAsk}
use Rattle.chunk_table.specs.declared.asks.ChunkAnswer.{ChunkAnswer}
use Rattle.chunk_table.specs.declared.locked.Locked.{Locked}
use Rattle.chunk_table.specs.declared.table.ChunkTable.{ChunkTable}

-- the seed of the hashes that say the bucket of a table's key; its partition is that of its hash without a seed
abbrev pub seed_of : {W C R : Type 0} → ChunkTable W C R → ℕ
seed_of t = t.seed

-- the words of a table's keys
abbrev pub key_words_of : {W C R : Type 0} → ChunkTable W C R → ℕ
key_words_of t = t.key_words

-- the bytes that are asked of the area for an item of a table
abbrev pub item_of : {W C R : Type 0} → ChunkTable W C R → ℕ
item_of t = t.item_bytes

-- how many callers a table has
abbrev pub callers_of : {W C R : Type 0} → ChunkTable W C R → ℕ
callers_of t = shelf.callers_of t.shelf

-- a spare item for a table in this region, or none: a chunk with the number of bytes that the area grants for an item
abbrev pub IsSpare : {W C R : Type 0} → TableId → ChunkTable W C R → Option Chunk → Type 0
IsSpare region t spare = IfSome spare (λ c. (c.part.region ≡ region) × (c.bytes ≡ chunk_size (item_of t)))

-- the name of the partition of this number
abbrev pub name_in : {W C R : Type 0} → TableId → ChunkTable W C R → ℕ → PartitionName
name_in region t number = record { region = region; number = number; seed = t.seed; key_words = t.key_words; item_bytes = chunk_size t.item_bytes }

-- The table is in this region. It opened with 128 partitions, empty and of size 7; a key has up to 64 words, and an
-- item is one that the area may be asked for
pub record IsTable {W C R : Type 0} (region : TableId) (t : ChunkTable W C R) : Type 0 where
  pub count : count_of t.shelf ≡ 128
  pub parts : (i : ℕ) → i < 128 → get_elem? (opens_of t.shelf) i ≡ some (name_in region t i, fresh)
  pub keys : (1 ≤ t.key_words) × (t.key_words ≤ 64)
  pub items : (1 ≤ t.item_bytes) × (t.item_bytes ≤ 2 ^ 30)

-- g are the meanings of the locked partitions' members
module _ {W C R : Type 0} {g : Ghosts (Locked W C R) TableId (ChunkAsk W C R) (ChunkAnswer W C R) PartitionName (PartitionState Held) (PartitionCalls (ChunkCalls C)) (PartitionReplies Held (ChunkReplies R))} where
  -- the pass is one of this table's, with what is always true of such a pass
  abbrev pub Belongs : ChunkTable W C R → Pass (Locked W C R) TableId (ChunkAsk W C R) (ChunkAnswer W C R) PartitionName (PartitionState Held) (PartitionCalls (ChunkCalls C)) (PartitionReplies Held (ChunkReplies R)) g → Type 0
  Belongs t pass = shelf.Belongs t.shelf pass

  -- the passes of all callers, in order of their numbers
  abbrev pub AreAll : ChunkTable W C R → List (Pass (Locked W C R) TableId (ChunkAsk W C R) (ChunkAnswer W C R) PartitionName (PartitionState Held) (PartitionCalls (ChunkCalls C)) (PartitionReplies Held (ChunkReplies R)) g) → Type 0
  AreAll t passes = shelf.AreAll t.shelf passes

  -- what a pass of a table and a pass of its area show
  abbrev pub sight_of : Pass (Locked W C R) TableId (ChunkAsk W C R) (ChunkAnswer W C R) PartitionName (PartitionState Held) (PartitionCalls (ChunkCalls C)) (PartitionReplies Held (ChunkReplies R)) g → AreaPass → Sight Held (ChunkCalls C) (ChunkReplies R)
  sight_of pass area = sight (shelf.seen_of pass) (shelf.mine_of pass) area

  -- one event of the pass p, which is q afterwards, at a partition, and none at the others
  abbrev pub Turned : (Option Held → ChunkCalls C → Option Held × ChunkReplies R) → Pass (Locked W C R) TableId (ChunkAsk W C R) (ChunkAnswer W C R) PartitionName (PartitionState Held) (PartitionCalls (ChunkCalls C)) (PartitionReplies Held (ChunkReplies R)) g → Pass (Locked W C R) TableId (ChunkAsk W C R) (ChunkAnswer W C R) PartitionName (PartitionState Held) (PartitionCalls (ChunkCalls C)) (PartitionReplies Held (ChunkReplies R)) g → ℕ → PartitionCalls (ChunkCalls C) → PartitionReplies Held (ChunkReplies R) → Type 0
  Turned step p q number call reply = AtPartition step (shelf.number_of p) (shelf.seen_of p) (shelf.mine_of p) (shelf.seen_of q) (shelf.mine_of q) number call reply
