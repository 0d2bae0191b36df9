-- Chains of items in words, and the items that they represent. An item is its link, its hash, its key's words and its
-- value's words (dshash.c, struct dshash_table_item: next, hash, entry).
use Rattle.std.specs.Prelude.{◌≡◌, ◌≢◌, ℕ, zero, suc, ◌+◌, ◌^◌, ◌<◌, ◌⊎◌, ◌==◌, cond, List, [], ◌∷◌, map, unwrap_or}
use Rattle.word_map.specs.WordMap.{WordMap, at}

-- the value of a word of the map, and 0 if the map has none
abbrev pub word : WordMap → ℕ → ℕ
word m k = unwrap_or (at m k) 0

-- n words from word k on
abbrev pub words_at : (ℕ → ℕ) → ℕ → ℕ → List ℕ
words_at w k zero = []
words_at w k (suc n) = w k ∷ words_at w (suc k) n

-- no region has more words (the 2^26 that `Region::new` allows)
unfoldable pub most_words : ℕ
most_words = 2 ^ 26

-- the places of the items that a link leads to, from one to the next until a link is 0, at most n of them
abbrev pub places : (ℕ → ℕ) → ℕ → ℕ → List ℕ
places w zero link = []
places w (suc n) link = cond (link == 0) [] (link ∷ places w n (w link))

-- the link leads to just these places, one after the other
abbrev pub IsChain : (ℕ → ℕ) → ℕ → List ℕ → Type 0
IsChain w link [] = link ≡ 0
IsChain w link (a ∷ rest) = (link ≡ a) × (0 < a) × IsChain w (w a) rest

-- x is one of the list
abbrev pub Among : {A : Type 0} → A → List A → Type 0
Among x [] = ⊥
Among x (y ∷ ys) = (x ≡ y) ⊎ Among x ys

-- no number comes twice in the list
abbrev pub AreDistinct : List ℕ → Type 0
AreDistinct [] = Unit {0}
AreDistinct (x ∷ xs) = ((y : ℕ) → Among y xs → y ≢ x) × AreDistinct xs

-- an item: where it lies, and what its key and its value are
pub record Item : Type 0 where
  pub at : ℕ
  pub key : List ℕ
  pub value : List ℕ

-- the item that lies at word a
abbrev pub item_at : (ℕ → ℕ) → ℕ → ℕ → ℕ → Item
item_at w key_words value_words a = record { at = a; key = words_at w (a + 2) key_words; value = words_at w (a + 2 + key_words) value_words }

-- f at each number below n
abbrev pub each_below : {A : Type 0} → (ℕ → A) → ℕ → List A
each_below f zero = []
each_below f (suc n) = f 0 ∷ each_below (λ i. f (suc i)) n

-- the place of the link after these items, if `link` is that of the first of them
abbrev pub link_behind : ℕ → List ℕ → ℕ
link_behind link [] = link
link_behind link (a ∷ rest) = link_behind a rest

-- the places of items
abbrev pub ats : List Item → List ℕ
ats items = map (λ it. it.at) items
