-- Places with the numbers of their keys.
use Rattle.std.specs.Prelude.{◌≡◌, ℕ, All, List, drop, length, take}
use Rattle.key_index.specs.Front.{AllBytes, IsFrontOf, leading}
use Rattle.key_index.specs.Keys.{key_at}
use Rattle.key_index.specs.declared.order.Entry.{Entry}

-- the place of an entry, and its key
abbrev pub place_of : Entry → ℕ
place_of entry = entry.place

abbrev pub key_of : List (List ℕ) → Entry → List ℕ
key_of keys entry = key_at keys entry.place

-- an entry has the number of 16 bytes of its key, those from a place on
pub record IsNumbered (keys : List (List ℕ)) (from : ℕ) (entry : Entry) : Type 0 where
  pub number : entry.bytes ≡ leading 16 (drop from (key_of keys entry))
  pub bytes : AllBytes (take 16 (drop from (key_of keys entry)))

-- entries have the numbers of the bytes after a front that all keys have in common
pub record AreNumbered (keys : List (List ℕ)) (entries : List Entry) : Type 0 where
  pub front : List ℕ
  pub alike : All (IsFrontOf front) keys
  pub each : All (IsNumbered keys (length front)) entries
