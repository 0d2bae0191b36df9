-- Where the keys of a list are found: each falls into a slot by its hash, and the keys of a slot are linked from the last
-- to the first.
use Rattle.std.specs.Prelude.{◌≡◌, ◌≢◌, ℕ, ◌-◌, ◌<◌, ◌≤◌, List, [], bit_and, get_or, length, map}
use Rattle.dshash_core.specs.Key.{hash_of}

-- the slot of a hash, of this many
unfoldable pub slot_of : ℕ → ℕ → ℕ
slot_of slots hash = bit_and hash (slots - 1)

-- the keys of entries
abbrev pub keys_of : {S : Type 0} → List (List ℕ × S) → List (List ℕ)
keys_of pairs = map (λ e. e.0) pairs

-- the slot of the key at a place
abbrev pub slot_at : List (List ℕ) → ℕ → ℕ → ℕ
slot_at keys slots place = slot_of slots (hash_of (get_or keys place []))

-- the place before `at` is the last one below n whose key is in this slot; there is none if `at` is 0
pub record IsLast (keys : List (List ℕ)) (slots n slot at : ℕ) : Type 0 where
  pub within : at ≤ n
  pub own : at ≢ 0 → slot_at keys slots (at - 1) ≡ slot
  pub none : (place : ℕ) → at ≤ place → place < n → slot_at keys slots place ≢ slot

-- of the first n keys, `heads` has the last one of each slot, and `nexts` for each the last one before it in its slot
pub record AreLinked (keys : List (List ℕ)) (heads nexts : List ℕ) (n : ℕ) : Type 0 where
  pub count : length nexts ≡ n
  pub lasts : (slot : ℕ) → slot < length heads → IsLast keys (length heads) n slot (get_or heads slot 0)
  pub befores : (place : ℕ) → place < n → IsLast keys (length heads) place (slot_at keys (length heads) place) (get_or nexts place 0)

-- so are all keys, and there is a slot
pub record IsIndexed (keys : List (List ℕ)) (heads nexts : List ℕ) : Type 0 where
  pub some : 0 < length heads
  pub linked : AreLinked keys heads nexts (length keys)
