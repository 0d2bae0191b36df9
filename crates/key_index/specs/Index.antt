-- A table of slots that finds keys by their hash, and the keys that found no slot.
use Rattle.std.specs.Prelude.{◌≡◌, ◌<◌, ◌+◌, ◌-◌, ◌/◌, ◌%◌, ◌^◌, ◌⊎◌, ℕ, List, Option, Some, bit_and, get_or, length, min, slice_get}
use Rattle.std.specs.BTreeMap.{BTreeMap, get_by}
use Rattle.std.specs.Global.{Vec}
use Rattle.std.specs.Hash.FoldHasher as folding
use Rattle.key_index.specs.Keys.{key_cmp}
use Rattle.key_index.specs.declared.table.Slot.{Slot}
use Rattle.key_index.specs.declared.table.TheConstants.{LONGEST_SEARCH}

-- a key's hash
abbrev pub hash : List ℕ → ℕ
hash key = folding.finish (folding.write folding.initial key)

-- the slot that a search for a hash comes to after this many steps, of this many slots
unfoldable pub probe : ℕ → ℕ → ℕ → ℕ
probe size hash step = bit_and ((bit_and hash (size - 1) + step) % 2 ^ 64) (size - 1)

-- how many of this many slots a search looks at
abbrev pub reach : ℕ → ℕ
reach size = min size LONGEST_SEARCH

-- a slot of no key, and that of a place
abbrev pub free : Slot
free = record { tag = 0; next = 0 }

abbrev pub slot_of : ℕ → ℕ → Slot
slot_of hash place = record { tag = hash / 2 ^ 32; next = place + 1 }

-- the slot after this many steps
abbrev pub slot_at : List Slot → ℕ → ℕ → Slot
slot_at slots hash step = get_or slots (probe (length slots) hash step) free

-- a search for this hash comes to this place, and to no free slot before
pub record IsReached (slots : List Slot) (hash place : ℕ) : Type 0 where
  pub steps : ℕ
  pub within : steps < reach (length slots)
  pub there : slot_at slots hash steps ≡ slot_of hash place
  pub path : (step : ℕ) → step < steps → 0 < (slot_at slots hash step).next

-- the place under a key in an ordered map
abbrev pub late_place : BTreeMap (Vec ℕ) ℕ → List ℕ → Option ℕ
late_place late key = get_by (λ other. key_cmp key other.items) late

-- a key that has one of its places in the ordered map
pub record IsLate (late : BTreeMap (Vec ℕ) ℕ) (keys : List (List ℕ)) (key : List ℕ) : Type 0 where
  pub place : ℕ
  pub there : late_place late key ≡ Some place
  pub same : slice_get keys place ≡ Some key

-- each key's place is reached, or else the key is in the ordered map
pub record IsIndexed (slots : List Slot) (late : BTreeMap (Vec ℕ) ℕ) (keys : List (List ℕ)) : Type 0 where
  pub each : (place : ℕ) (key : List ℕ) → slice_get keys place ≡ Some key → IsReached slots (hash key) place ⊎ IsLate late keys key

-- after this many steps a search finds a slot that is not free, and not that of the key
abbrev pub Misses : List Slot → List (List ℕ) → List ℕ → ℕ → Type 0
Misses slots keys key step = (0 < (slot_at slots (hash key) step).next) × ((place : ℕ) → slot_at slots (hash key) step ≡ slot_of (hash key) place → slice_get keys place ≡ Some key → ⊥)
