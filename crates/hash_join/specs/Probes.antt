-- The last row that a table has of a field.
use Rattle.std.specs.Prelude.{◌&&◌, ◌*◌, ◌-◌, ◌∷◌, ℕ, Bool, List, cond, leb, length, ltb}
use Rattle.std.specs.List.{list_all}
use Rattle.std.specs.FinMap as fin
use Rattle.dshash_core.specs.Cells.{KeyMap, partition_of}
use Rattle.dshash_core.specs.Key.{hash_of}
use Rattle.join_pairs.specs.Chains.{number_in}
use Rattle.rel_pointer.specs.Bytes.{packed_words}

-- a field as a key of this many words: its length, and its bytes in the words after it
abbrev pub key_with : ℕ → List ℕ → List ℕ
key_with key_words field = length field ∷ packed_words (key_words - 1) field

-- whether a key of this many words has room for a field, which is a list of bytes
abbrev pub fits_key : ℕ → List ℕ → Bool
fits_key key_words field = list_all (λ b. ltb b 256) field && leb (length field) (8 * (key_words - 1))

-- the number that the maps of a table's partitions have under the key of a field, or 0 if they have none or the field
-- does not fit
abbrev pub last_in : (ℕ → KeyMap ℕ) → ℕ → List ℕ → ℕ
last_in maps key_words field = cond (fits_key key_words field) (number_in (fin.get (maps (partition_of (hash_of (key_with key_words field)))) (key_with key_words field))) 0
