-- What a contract sees of a table, and one event of it.
use Rattle.std.specs.Prelude.{◌≡◌, ◌≢◌, ℕ, ◌^◌, ◌<◌, ◌≤◌, List, [], ◌∷◌, length, Option, IfSome}
use Rattle.std.specs.List.{All}
use mathlib.Core.Option.{some}
use lib.ListN.{get_elem?}
use Rattle.atomic_table.specs.Seated.{TableId}
use Rattle.lock_book.specs.History.{last_of}
use Rattle.lock_book.specs.declared.kept.Kept.{Ghosts}
use Rattle.lock_book.specs.declared.shelf.Pass.{Pass}
use Rattle.lock_book.specs.Shown as shelf
use Rattle.lock_book.specs.Shown.{count_of, opens_of}
use Rattle.lock_book.specs.Told.{Histories, MakesAll}
use Rattle.region_words.specs.declared.chunk.Chunk.{Chunk}
use Rattle.dsa_area.specs.Sizes.{chunk_size}
use Rattle.dsa_area.specs.declared.area.Area.{Area}
use Rattle.dshash_core.specs.Key.{hash_of}
use Rattle.dshash_core.specs.Cells.{KeyMap, partition_of}
use Rattle.dshash_parts.specs.States.{PartitionState, fresh}
use Rattle.dshash_parts.specs.Legal.{PartitionLegal}
use Rattle.dshash_parts.specs.declared.histories.PartitionName.{PartitionName}
use Rattle.dshash_parts.specs.declared.histories.PartitionCalls.{PartitionCalls}
use Rattle.dshash_parts.specs.declared.histories.PartitionReplies.{PartitionReplies}
use Rattle.dshash_parts.specs.declared.asks.TableAsk.{TableAsk}
use Rattle.dshash_parts.specs.declared.asks.TableAnswer.{TableAnswer}
use Rattle.dshash_parts.specs.declared.numbered.Numbered.{Numbered}
use Rattle.dshash_parts.specs.declared.table.Dshash.{Dshash}

-- the seed of the hashes that say the bucket of a table's key; its partition is that of its hash without a seed
abbrev pub seed_of : {O S C R : Type 0} → Dshash O S C R → ℕ
seed_of t = t.seed

-- the words of a table's keys
abbrev pub key_words_of : {O S C R : Type 0} → Dshash O S C R → ℕ
key_words_of t = t.key_words

-- the bytes that are asked of the area for an item of a table
abbrev pub item_of : {O S C R : Type 0} → Dshash O S C R → ℕ
item_of t = t.item_bytes

-- how many callers a table has
abbrev pub callers_of : {O S C R : Type 0} → Dshash O S C R → ℕ
callers_of t = shelf.callers_of t.shelf

-- a spare item for a table in this region, or none: a chunk with the number of bytes that the area grants for an item
abbrev pub IsSpare : {O S C R : Type 0} → TableId → Dshash O S C R → Option Chunk → Type 0
IsSpare region t spare = IfSome spare (λ c. (c.part.region ≡ region) × (c.bytes ≡ chunk_size (item_of t)))

-- g are the meanings of the locked partitions' members
module _ {O S C R : Type 0} {g : Ghosts (Numbered O S C R) TableId (TableAsk O S C R) (TableAnswer O S C R) PartitionName (PartitionState S) (PartitionCalls C) (PartitionReplies S R)} where
  -- the pass is one of this table's, with what is always true of such a pass
  abbrev pub Belongs : Dshash O S C R → Pass (Numbered O S C R) TableId (TableAsk O S C R) (TableAnswer O S C R) PartitionName (PartitionState S) (PartitionCalls C) (PartitionReplies S R) g → Type 0
  Belongs t pass = shelf.Belongs t.shelf pass

  -- the passes of all callers, in order of their numbers
  abbrev pub AreAll : Dshash O S C R → List (Pass (Numbered O S C R) TableId (TableAsk O S C R) (TableAnswer O S C R) PartitionName (PartitionState S) (PartitionCalls C) (PartitionReplies S R) g) → Type 0
  AreAll t passes = shelf.AreAll t.shelf passes

-- the name of the partition of this number
abbrev pub name_in : {O S C R : Type 0} → TableId → Dshash O S C R → ℕ → PartitionName
name_in region t number = record { region = region; number = number; seed = t.seed; key_words = t.key_words; item_bytes = chunk_size t.item_bytes }

-- The table is in this region. It opened with 128 partitions, empty and of size 7; a key has up to 64 words, and an
-- item is one that the area may be asked for
pub record IsTable {O S C R : Type 0} (region : TableId) (t : Dshash O S C R) : Type 0 where
  pub count : count_of t.shelf ≡ 128
  pub parts : (i : ℕ) → i < 128 → get_elem? (opens_of t.shelf) i ≡ some (name_in region t i, fresh)
  pub keys : (1 ≤ t.key_words) × (t.key_words ≤ 64)
  pub items : (1 ≤ t.item_bytes) × (t.item_bytes ≤ 2 ^ 30)

-- The table was made with this area, so its items and slices come from it and go back to it. A table on slices that its
-- caller brought was made with none, and then any will do
abbrev pub IsHome : {O S C R : Type 0} → Area → Dshash O S C R → Type 0
IsHome a t = IfSome t.home (λ h. h.value ≡ a)

-- the keys of the pairs have the words of a table's keys, and belong to the partition of this number
abbrev pub AreKeysOf : {O S C R : Type 0} → Dshash O S C R → ℕ → List (List ℕ × S) → Type 0
AreKeysOf t number pairs = All (λ p. (length p.0 ≡ t.key_words) × (partition_of (hash_of p.0) ≡ number)) pairs

-- the state of a partition after all that was seen of it
abbrev pub state_at : {S C R : Type 0} → Histories (PartitionState S) (PartitionCalls C) (PartitionReplies S R) → ℕ → PartitionState S
state_at seen number = last_of fresh (seen number)

-- its size then
abbrev pub size_at : {S C R : Type 0} → Histories (PartitionState S) (PartitionCalls C) (PartitionReplies S R) → ℕ → ℕ
size_at seen number = (state_at seen number).size

-- its map then
abbrev pub map_at : {S C R : Type 0} → Histories (PartitionState S) (PartitionCalls C) (PartitionReplies S R) → ℕ → KeyMap S
map_at seen number = (state_at seen number).cells

-- n is the number of a pass; `seen` and `mine` are what it shows before, and the same with a prime what it shows after
module _ {S C R : Type 0} (step : Option S → C → Option S × R) (n : ℕ) (seen mine seen' mine' : Histories (PartitionState S) (PartitionCalls C) (PartitionReplies S R)) where
  -- at a partition just these events
  abbrev pub Did : ℕ → List (PartitionCalls C × PartitionReplies S R) → Type 0
  Did number es = MakesAll (λ _. PartitionLegal step number) fresh n (seen number) (mine number) (seen' number) (mine' number) es

  -- one event at a partition, and none at the others
  pub record AtPartition (number : ℕ) (call : PartitionCalls C) (reply : PartitionReplies S R) : Type 0 where
    pub here : Did number ((call, reply) ∷ [])
    pub others : (other : ℕ) → other ≢ number → Did other []

module _ {O S C R : Type 0} {g : Ghosts (Numbered O S C R) TableId (TableAsk O S C R) (TableAnswer O S C R) PartitionName (PartitionState S) (PartitionCalls C) (PartitionReplies S R)} where
  -- one event of the pass p, which is q afterwards, at a partition, and none at the others
  abbrev pub Turned : (Option S → C → Option S × R) → Pass (Numbered O S C R) TableId (TableAsk O S C R) (TableAnswer O S C R) PartitionName (PartitionState S) (PartitionCalls C) (PartitionReplies S R) g → Pass (Numbered O S C R) TableId (TableAsk O S C R) (TableAnswer O S C R) PartitionName (PartitionState S) (PartitionCalls C) (PartitionReplies S R) g → ℕ → PartitionCalls C → PartitionReplies S R → Type 0
  Turned step p q number call reply = AtPartition step (shelf.number_of p) (shelf.seen_of p) (shelf.mine_of p) (shelf.seen_of q) (shelf.mine_of q) number call reply
