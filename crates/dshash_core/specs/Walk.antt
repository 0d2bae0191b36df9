-- What a walk along a chain finds.
use Rattle.std.specs.Prelude.{◌≡◌, ◌≢◌, ℕ, ◌+◌, ◌<◌, ◌≤◌, List, ◌∷◌, ◌++◌, length, IsSome}
use Rattle.word_map.specs.WordMap.{WordMap, at}
use Rattle.dshash_core.specs.Key.{seeded_hash}
use Rattle.dshash_core.specs.Chains.{word, words_at, most_words, places, Among, link_behind}

-- a walk can compare the item at a with keys of `key_words` words: the map has its words, and its hash is that of its
-- key
pub record IsReadable (m : WordMap) (seed key_words a : ℕ) : Type 0 where
  pub owned : (k : ℕ) → a ≤ k → k < a + (2 + key_words) → IsSome (at m k)
  pub hashed : word m (a + 1) ≡ seeded_hash seed (words_at (word m) (a + 2) key_words)

-- the places of the items on the chain from the word `link`
abbrev pub chain_from : WordMap → ℕ → List ℕ
chain_from m link = places (word m) most_words (word m link)

-- the key is at item, the first on the chain from `link` that has it, linked from the word `behind`
pub record IsPlaced (w : ℕ → ℕ) (chain : List ℕ) (link behind item key_words : ℕ) (key : List ℕ) : Type 0 where
  pub before : List ℕ
  pub after : List ℕ
  pub splits : chain ≡ before ++ item ∷ after
  pub linked : link_behind link before ≡ behind
  pub here : words_at w (item + 2) key_words ≡ key

-- no item on the chain has the key
abbrev pub IsNowhere : (ℕ → ℕ) → List ℕ → ℕ → List ℕ → Type 0
IsNowhere w chain key_words key = (a : ℕ) → Among a chain → words_at w (a + 2) key_words ≢ key

-- an item on the chain from `link` in this map has the key, and word `behind` links to it
abbrev pub IsPlacedFrom : WordMap → ℕ → ℕ → ℕ → List ℕ → Type 0
IsPlacedFrom m link behind item key = IsPlaced (word m) (chain_from m link) link behind item (length key) key

-- no item on the chain from `link` in this map has the key
abbrev pub IsNowhereFrom : WordMap → ℕ → List ℕ → Type 0
IsNowhereFrom m link key = IsNowhere (word m) (chain_from m link) (length key) key

-- old and the words of an item at a, which is hung in and linked from the word `link`
pub record IsHungIn (old item new : WordMap) (link a : ℕ) : Type 0 where
  pub keeps : (k : ℕ) → IsSome (at old k) → IsSome (at new k)
  pub gains : (k : ℕ) → IsSome (at item k) → IsSome (at new k)
  pub below : (k : ℕ) → IsSome (at new k) → k < most_words
  pub apart : (k : ℕ) → IsSome (at old k) → IsSome (at item k) → ⊥
  pub linked : word new link ≡ a
  pub next : word new a ≡ word old link
  pub others : (k : ℕ) → IsSome (at old k) → k ≢ link → word new k ≡ word old k
  pub body : (k : ℕ) → IsSome (at item k) → k ≢ a → word new k ≡ word item k

-- old without the n words of the item at a, which was linked from the word `link`
pub record IsTakenOut (old new item : WordMap) (link a n : ℕ) : Type 0 where
  pub keeps : (k : ℕ) → IsSome (at old k) → (a ≤ k → k < a + n → ⊥) → IsSome (at new k)
  pub below : (k : ℕ) → IsSome (at new k) → k < most_words
  pub linked : word new link ≡ word old a
  pub others : (k : ℕ) → (a ≤ k → k < a + n → ⊥) → k ≢ link → word new k ≡ word old k
  pub taken : (k : ℕ) → a ≤ k → k < a + n → word item k ≡ word old k
