-- A partition as contracts see it, and how the chains of its buckets represent it.
use Rattle.std.specs.Prelude.{◌≡◌, ◌≢◌, ℕ, ◌+◌, ◌-◌, ◌/◌, ◌%◌, ◌^◌, ◌<◌, ◌≤◌, List, [], ◌∷◌, ◌++◌, map, length, refl}
use Rattle.std.specs.Coded.{Coded, code_by, coded×, coded_ℕ, coded_list}
use Rattle.std.specs.Ordering.{nat_cmp}
use Rattle.std.specs.Cmp.Lexicographic.{slice_cmp}
use Rattle.std.specs.FinMap as fin
use Rattle.atomic_table.specs.Seated.{TableId, table_id_coded}
use Rattle.word_map.specs.WordMap.{WordMap}
use Rattle.dshash_core.specs.Key.{seeded_hash}
use Rattle.dshash_core.specs.Chains.{Among, Item}
use Rattle.dshash_core.specs.Hung.{Hung, IsItemChunk, Layout, chain_of}

-- a finite map from keys, which are lists of words
abbrev pub KeyMap : Type 0 → Type 0
KeyMap S = fin.FinMap (slice_cmp nat_cmp) S

-- what contracts see of a partition: its region, the words of its bucket slice, the items' shape and the seed of their
-- hashes, its size, and the states under its keys
pub record PartitionView (S : Type 0) : Type 0 where
  pub region : TableId
  pub slice : ℕ
  pub words : ℕ
  pub seed : ℕ
  pub key_words : ℕ
  pub item_bytes : ℕ
  pub size : ℕ
  pub cells : KeyMap S

-- the shape of a partition's items, with values of this many words
abbrev pub layout_of : {S : Type 0} → PartitionView S → ℕ → Layout
layout_of p value_words = record { seed = p.seed; key_words = p.key_words; value_words = value_words; item_bytes = p.item_bytes }

-- the partition has taken in the item that the words at a place are: its key has its state, and all else is as before
abbrev pub TakesIn : {S : Type 0} → (List ℕ → S) → ℕ → PartitionView S → PartitionView S → ℕ → WordMap → Type 0
TakesIn decoded value_words old new place words =
    (it : Item) → IsItemChunk place words (layout_of old value_words) it → new ≡ record old { cells = fin.insert old.cells it.key (decoded it.value) }

-- the code by which proofs distinguish such values
abbrev pub partition_code : {S : Type 0} → Coded S → Coded (PartitionView S)
partition_code {S} s =
    code_by (TableId × (ℕ × (ℕ × (ℕ × (ℕ × (ℕ × (ℕ × KeyMap S))))))) (coded× table_id_coded (coded× coded_ℕ (coded× coded_ℕ (coded× coded_ℕ (coded× coded_ℕ (coded× coded_ℕ (coded× coded_ℕ (fin.code (coded_list coded_ℕ) s))))))))
    (λ p. (p.region, (p.slice, (p.words, (p.seed, (p.key_words, (p.item_bytes, (p.size, p.cells))))))))
    (λ q. record { region = q.0; slice = q.1.0; words = q.1.1.0; seed = q.1.1.1.0; key_words = q.1.1.1.1.0; item_bytes = q.1.1.1.1.1.0; size = q.1.1.1.1.1.1.0; cells = q.1.1.1.1.1.1.1 }) (λ _. refl)

-- the number of the partition to which a hash belongs: its top 7 bits (dshash.c, PARTITION_FOR_HASH)
abbrev pub partition_of : ℕ → ℕ
partition_of hash = hash / 2 ^ 25

-- the bucket of a hash in a partition of a size: the hash's top bits, as many as the size, without the 7 of the
-- partition (dshash.c, BUCKET_INDEX_FOR_HASH_AND_SIZE)
abbrev pub bucket_of : ℕ → ℕ → ℕ
bucket_of size hash = hash / 2 ^ (32 - size) % 2 ^ (size - 7)

-- the buckets of a partition of a size (dshash.c, BUCKETS_PER_PARTITION)
abbrev pub buckets_of : ℕ → ℕ
buckets_of size = 2 ^ (size - 7)

-- with more keys than this a partition grows before it inserts: three quarters of its buckets, each part rounded down
-- (dshash.c, MAX_COUNT_PER_PARTITION)
abbrev pub full_above : ℕ → ℕ
full_above size = buckets_of size / 2 + buckets_of size / 4

-- a partition of that size can have this many keys: a size is from 7 to 20, and only at 20 it may hold more than one
-- key too many
pub record IsRoomy (size keys : ℕ) : Type 0 where
  pub from : 7 ≤ size
  pub to : size ≤ 20
  pub few : size < 20 → keys ≤ full_above size + 1

-- the items of all chains
abbrev pub all_items : List (List Item) → List Item
all_items [] = []
all_items (items ∷ chains) = items ++ all_items chains

-- the key of an item and the state that its value represents
abbrev pub entry_of : {S : Type 0} → (List ℕ → S) → Item → List ℕ × S
entry_of decoded it = (it.key, decoded it.value)

-- the map that chains of items represent
abbrev pub cells_of : {S : Type 0} → (List ℕ → S) → List (List Item) → KeyMap S
cells_of decoded chains = fin.from_entries (map (entry_of decoded) (all_items chains))

-- no two of the items have one key
abbrev pub AreKeyed : List Item → Type 0
AreKeyed [] = Unit {0}
AreKeyed (it ∷ items) = ((x : Item) → Among x items → x.key ≢ it.key) × AreKeyed items

-- the chains of a partition of a size: one for each bucket, each item in that of its key's hash, each key once, and
-- `count` items in all
pub record AreCells (size count value_words : ℕ) (h : Hung) : Type 0 where
  pub buckets : length h.chains ≡ buckets_of size
  pub placed : (i : ℕ) (it : Item) → i < length h.chains → Among it (chain_of h i) → bucket_of size (seeded_hash h.layout.seed it.key) ≡ i
  pub keyed : AreKeyed (all_items h.chains)
  pub counted : count ≡ length (all_items h.chains)
  pub values : h.layout.value_words ≡ value_words
  pub roomy : IsRoomy size count

-- what contracts see of a partition with these buckets
abbrev pub partition_seen : {S : Type 0} → (List ℕ → S) → Hung → ℕ → PartitionView S
partition_seen decoded h size = record {
  region = h.region;
  slice = h.slice;
  words = h.words;
  seed = h.layout.seed;
  key_words = h.layout.key_words;
  item_bytes = h.layout.item_bytes;
  size = size;
  cells = cells_of decoded h.chains;
}

-- the fields of a partition: its buckets hold a map of a size, and a value has at most 65,536 words
pub record IsPartition (value_words size count : ℕ) (h : Hung) : Type 0 where
  pub cells : AreCells size count value_words h
  pub short : value_words ≤ 65536
