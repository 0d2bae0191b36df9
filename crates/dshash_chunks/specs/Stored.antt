-- A map of names with the words that they name, and the map of chunks that both stand for.
use Rattle.std.specs.Prelude.{◌≡◌, ◌≢◌, ℕ, ◌+◌, ◌/◌, ◌%◌, ◌<◌, ◌≤◌, List, map, Option, Some, None, IsSome}
use Rattle.std.specs.Ordering.{nat_cmp}
use Rattle.std.specs.Cmp.Lexicographic.{slice_cmp}
use Rattle.std.specs.FinMap as fin
use Rattle.word_map.specs.WordMap.{WordMap, at, rest_of}
use Rattle.region_words.specs.Parts.{Owned}
use Rattle.dshash_core.specs.Cells.{KeyMap, PartitionView}
use Rattle.dshash_chunks.specs.declared.held.Held.{Held}
use Rattle.dshash_chunks.specs.declared.name.ChunkName.{ChunkName}
use Rattle.dshash_chunks.specs.Held.{held}

-- the map with each name's words
abbrev pub shown : WordMap → KeyMap ChunkName → KeyMap Held
shown m names = fin.from_sorted {R = slice_cmp nat_cmp} (map (λ e. (e.0, held m e.1)) (fin.entries names))

-- what contracts see of a partition of names with such a store
abbrev pub chunks_seen : PartitionView ChunkName → Owned → PartitionView Held
chunks_seen p store = record {
  region = p.region;
  slice = p.slice;
  words = p.words;
  seed = p.seed;
  key_words = p.key_words;
  item_bytes = p.item_bytes;
  size = p.size;
  cells = shown store.words p.cells;
}

-- the word is one of the chunk's of this name
abbrev pub IsOneOf : ChunkName → ℕ → Type 0
IsOneOf n k = (n.at ≤ k) × (k < n.at + n.bytes / 8)

-- the chunk of the name can be cut off these words: they have all of its words, and it is a chunk
pub record IsCuttable (words : WordMap) (n : ChunkName) : Type 0 where
  pub valid : 0 < n.at
  pub whole : n.bytes % 8 ≡ 0
  pub owned : (k : ℕ) → n.at ≤ k → k < n.at + n.bytes / 8 → IsSome (at words k)

-- the words of the map without those of the chunk of a name, if there is one
abbrev pub without : WordMap → Option ChunkName → WordMap
without words None = words
without words (Some n) = rest_of words n.at (n.bytes / 8)

-- the chunks of all names are there, and those of two keys have no word in common
pub record IsStored (words : WordMap) (names : KeyMap ChunkName) : Type 0 where
  pub chunks : (key : List ℕ) (n : ChunkName) → fin.get names key ≡ Some n → IsCuttable words n
  pub apart : (key other : List ℕ) (n m : ChunkName) → fin.get names key ≡ Some n → fin.get names other ≡ Some m → key ≢ other → (k : ℕ) → IsOneOf n k → IsOneOf m k → ⊥

-- the store of a partition has the chunks of its names, in its region
pub record IsStoring (p : PartitionView ChunkName) (store : Owned) : Type 0 where
  pub here : store.region ≡ p.region
  pub stored : IsStored store.words p.cells
