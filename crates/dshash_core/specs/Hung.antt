-- The buckets of a slice, as contracts see them, and how the words represent them (dshash.c: an array of pointers to
-- items, and the items' links).
use Rattle.std.specs.Prelude.{◌≡◌, ◌≢◌, ℕ, ◌+◌, ◌/◌, ◌%◌, ◌<◌, ◌≤◌, List, [], ◌∷◌, ◌++◌, map, length, replicate, refl, IsSome, slice_set, slice_index_or}
use Rattle.std.specs.Coded.{Coded, code_by, coded×, coded_ℕ, coded_list}
use Rattle.atomic_table.specs.Seated.{TableId, table_id_coded}
use Rattle.word_map.specs.WordMap.{WordMap, at}
use Rattle.region_words.specs.Parts.{Owned}
use Rattle.dshash_core.specs.Key.{seeded_hash}
use Rattle.dshash_core.specs.Chains.{word, words_at, most_words, places, IsChain, Among, AreDistinct, Item, item_at, each_below, link_behind, ats}

-- how the items of a table are laid out: the seed of their hashes, words of a key, words of a value, bytes of the chunk of
-- an item
pub record Layout : Type 0 where
  pub seed : ℕ
  pub key_words : ℕ
  pub value_words : ℕ
  pub item_bytes : ℕ

-- a bucket slice with its chains: the region, the first word and the words of the slice, the items' layout, and the
-- items of each bucket
pub record Hung : Type 0 where
  pub region : TableId
  pub slice : ℕ
  pub words : ℕ
  pub layout : Layout
  pub chains : List (List Item)

-- the codes by which proofs distinguish such values
abbrev pub layout_code : Coded Layout
layout_code = code_by (ℕ × (ℕ × (ℕ × ℕ))) (coded× coded_ℕ (coded× coded_ℕ (coded× coded_ℕ coded_ℕ))) (λ l. (l.seed, (l.key_words, (l.value_words, l.item_bytes)))) (λ p. record { seed = p.0; key_words = p.1.0; value_words = p.1.1.0; item_bytes = p.1.1.1 }) (λ _. refl)

abbrev pub item_code : Coded Item
item_code = code_by (ℕ × (List ℕ × List ℕ)) (coded× coded_ℕ (coded× (coded_list coded_ℕ) (coded_list coded_ℕ))) (λ i. (i.at, (i.key, i.value))) (λ p. record { at = p.0; key = p.1.0; value = p.1.1 }) (λ _. refl)

abbrev pub hung_code : Coded Hung
hung_code =
    code_by (TableId × (ℕ × (ℕ × (Layout × List (List Item))))) (coded× table_id_coded (coded× coded_ℕ (coded× coded_ℕ (coded× layout_code (coded_list (coded_list item_code))))))
    (λ h. (h.region, (h.slice, (h.words, (h.layout, h.chains))))) (λ p. record { region = p.0; slice = p.1.0; words = p.1.1.0; layout = p.1.1.1.0; chains = p.1.1.1.1 }) (λ _. refl)

-- ranges of n words from a and of k words from b have no word in common
abbrev pub IsApart : ℕ → ℕ → ℕ → ℕ → Type 0
IsApart a n b k = (a < b → a + n ≤ b) × (b ≤ a → b + k ≤ a)

-- an item at a: its words are owned and are none of the slice's, and its hash is that of its key
pub record IsItem (m : WordMap) (slice words seed key_words item_bytes a : ℕ) : Type 0 where
  pub owned : (k : ℕ) → a ≤ k → k < a + item_bytes / 8 → IsSome (at m k)
  pub apart : IsApart slice words a (item_bytes / 8)
  pub hashed : word m (a + 1) ≡ seeded_hash seed (words_at (word m) (a + 2) key_words)
  pub whole : item_bytes % 8 ≡ 0

-- the words represent chains of items at these places, one chain a bucket
pub record AreHung (slice words buckets seed key_words value_words item_bytes : ℕ) (m : WordMap) (chain : ℕ → List ℕ) : Type 0 where
  pub low : 0 < slice
  pub room : buckets ≤ words
  pub fits : 2 + key_words + value_words ≤ item_bytes / 8
  pub owned : (k : ℕ) → slice ≤ k → k < slice + words → IsSome (at m k)
  pub below : (k : ℕ) → IsSome (at m k) → k < most_words
  pub linked : (i : ℕ) → i < buckets → IsChain (word m) (word m (slice + i)) (chain i)
  pub distinct : (i : ℕ) → i < buckets → AreDistinct (chain i)
  pub items : (i a : ℕ) → i < buckets → Among a (chain i) → IsItem m slice words seed key_words item_bytes a
  pub apart : (i j a b : ℕ) → i < buckets → j < buckets → Among a (chain i) → Among b (chain j) → a ≢ b → IsApart a (item_bytes / 8) b (item_bytes / 8)
  pub once : (i j a : ℕ) → i < buckets → j < buckets → Among a (chain i) → Among a (chain j) → i ≡ j

-- the places of the items of bucket i
abbrev pub chain_places : WordMap → ℕ → ℕ → List ℕ
chain_places m slice i = places (word m) most_words (word m (slice + i))

-- the items of bucket i
abbrev pub chain_items : WordMap → ℕ → ℕ → ℕ → ℕ → List Item
chain_items m slice key_words value_words i = map (item_at (word m) key_words value_words) (chain_places m slice i)

-- what the words of a slice represent
abbrev pub hung : Owned → ℕ → ℕ → ℕ → ℕ → ℕ → ℕ → ℕ → Hung
hung part slice words buckets seed key_words value_words item_bytes = record {
  region = part.region;
  slice = slice;
  words = words;
  layout = record { seed = seed; key_words = key_words; value_words = value_words; item_bytes = item_bytes };
  chains = each_below (chain_items part.words slice key_words value_words) buckets;
}

-- what a slice of this many buckets stands for that has no items
abbrev pub empty_hung : TableId → ℕ → ℕ → ℕ → ℕ → ℕ → ℕ → ℕ → Hung
empty_hung region slice words buckets seed key_words value_words item_bytes = record {
  region = region;
  slice = slice;
  words = words;
  layout = record { seed = seed; key_words = key_words; value_words = value_words; item_bytes = item_bytes };
  chains = replicate buckets [];
}

-- the items of bucket i
abbrev pub chain_of : Hung → ℕ → List Item
chain_of h i = slice_index_or h.chains i []

-- the item is in the chain of bucket i, linked from the word `link`
pub record IsSpot (h : Hung) (i link : ℕ) (it : Item) : Type 0 where
  pub before : List Item
  pub after : List Item
  pub chain : chain_of h i ≡ before ++ it ∷ after
  pub behind : link_behind (h.slice + i) (ats before) ≡ link

-- h with another chain in bucket i
abbrev pub with_chain : Hung → ℕ → List Item → Hung
with_chain h i items = record h { chains = slice_set h.chains i items }

-- the item is one of h
abbrev pub Holds : Hung → Item → Type 0
Holds h it = (i : ℕ) × (i < length h.chains) × Among it (chain_of h i)

-- no item of bucket i has the key
abbrev pub HasNoItem : Hung → ℕ → List ℕ → Type 0
HasNoItem h i key = (it : Item) → Among it (chain_of h i) → it.key ≢ key

-- an item of bucket i has the key: it lies at `at`, linked from the word `link`
abbrev pub HasItem : Hung → ℕ → ℕ → ℕ → List ℕ → Type 0
HasItem h i link place key = (it : Item) × IsSpot h i link it × (it.at ≡ place) × (it.key ≡ key)

-- the words at the place are this item, and its hash is that of its key
pub record IsItemChunk (place : ℕ) (words : WordMap) (layout : Layout) (it : Item) : Type 0 where
  pub reads : item_at (word words) layout.key_words layout.value_words place ≡ it
  pub hashed : word words (place + 1) ≡ seeded_hash layout.seed it.key

-- the place of the first item, and 0 if there is none
abbrev pub first_place : List Item → ℕ
first_place [] = 0
first_place (it ∷ items) = it.at

-- a chunk at the place is the first item of bucket i of `old`, and `new` is without it
pub record IsFirst (old new : Hung) (i place bytes : ℕ) (part : Owned) : Type 0 where
  pub it : Item
  pub rest : List Item
  pub chain : chain_of old i ≡ it ∷ rest
  pub without : new ≡ with_chain old i rest
  pub item : IsItemChunk place part.words old.layout it
  pub here : part.region ≡ old.region
  pub whole : bytes ≡ old.layout.item_bytes
