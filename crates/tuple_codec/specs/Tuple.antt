-- The tuples of a worker's queue: a group's key and partial state as bytes, each number lowest byte first.
use Rattle.std.specs.Prelude.{◌≡◌, ◌<◌, ◌≤◌, ◌+◌, ◌-◌, ◌*◌, ◌/◌, ◌%◌, ◌^◌, ◌++◌, ℕ, ℤ, List, ◌∷◌, FitsSigned, Option, Some, None, drop, if◌then◌else◌, length, map, nat_lt, replicate, slice_index, take}
use Rattle.std.specs.Int.{cast_unsigned, from_le_bytes, to_le_bytes, w32, w64, w128}
use Rattle.std.specs.List.{AllByRecursion, concat}
use Rattle.par_model.specs.Aggregate.{no_values}
use Rattle.par_model.specs.declared.state.AggState.{AggState}
use Rattle.par_model.specs.declared.state.SlotState.{SlotState}
use Rattle.tuple_codec.specs.declared.read.TupleRead.{TupleRead}
use Rattle.tuple_codec.specs.declared.read.TupleRead.TheVariants as refused
use Rattle.par_model.specs.Refuse.{longest_key}

-- a number in 8 bytes
unfoldable pub word : ℕ → List ℕ
word n = to_le_bytes w64 n

-- a signed number in 8 bytes, in two's complement
abbrev pub signed_word : ℤ → List ℕ
signed_word z = word (cast_unsigned w64 z)

-- a signed number of 128 bits, as its low and its high word
abbrev pub sum_bytes : ℤ → List ℕ
sum_bytes z = word (cast_unsigned w128 z % 2 ^ 64) ++ word (cast_unsigned w128 z / 2 ^ 64)

-- a slot in 40 bytes: count, sum, least, greatest
abbrev pub slot_bytes : SlotState → List ℕ
slot_bytes slot = word slot.count ++ (sum_bytes slot.sum ++ (signed_word slot.least ++ signed_word slot.greatest))

-- a tuple: the key after its length in 4 bytes, the rows in 8, the number of slots in one, the slots
unfoldable pub tuple_bytes : List ℕ → AggState → ℕ → List ℕ
tuple_bytes key state slots = to_le_bytes w32 (length key) ++ (key ++ (word state.rows ++ (slots ∷ concat (map slot_bytes (take slots state.slots)))))

-- a slot whose numbers are those of their types
abbrev pub IsSlot : SlotState → Type 0
IsSlot slot = (slot.count < 2 ^ 64) × FitsSigned w128 slot.sum × FitsSigned w64 slot.least × FitsSigned w64 slot.greatest

-- a group that has a tuple with this many slots, past which all are zeros
pub record IsTuple (key : List ℕ) (state : AggState) (slots : ℕ) : Type 0 where
  pub key_fits : length key ≤ longest_key
  pub key_bytes : AllByRecursion (λ byte. byte < 2 ^ 8) key
  pub rows : state.rows < 2 ^ 64
  pub few : slots ≤ 8
  pub long : length state.slots ≡ 8
  pub numbers : AllByRecursion IsSlot state.slots
  pub zeros : drop slots state.slots ≡ replicate (8 - slots) no_values

-- why this many bytes from a place on are not this many slots
abbrev pub slots_refusal : ℕ → ℕ → ℕ → Option TupleRead
slots_refusal at left slots = if nat_lt left (40 * slots) then Some (refused.Short (at + 40 * (left / 40))) else (if nat_lt (40 * slots) left then Some (refused.Trailing (left - 40 * slots)) else None)

-- why this many bytes are no tuple with a key of this length and this many slots
abbrev pub shape_refusal : ℕ → ℕ → ℕ → Option TupleRead
shape_refusal size key slots =
    if nat_lt size 4 then Some (refused.Short 0)
    else (if nat_lt longest_key key then Some (refused.Range 0)
    else (if nat_lt size (4 + key) then Some (refused.Short 4)
    else (if nat_lt size (12 + key) then Some (refused.Short (4 + key))
    else (if nat_lt size (13 + key) then Some (refused.Short (12 + key))
    else (if nat_lt 8 slots then Some (refused.Range (12 + key))
    else slots_refusal (13 + key) (size - (13 + key)) slots)))))

-- the length of the key that bytes begin with
abbrev pub key_length : List ℕ → ℕ
key_length bytes = from_le_bytes w32 (take 4 bytes)

-- why bytes are no tuple: the first part, from the front, that is cut off or out of range, or bytes that are left
unfoldable pub refusal : List ℕ → Option TupleRead
refusal bytes = shape_refusal (length bytes) (key_length bytes) (slice_index bytes (12 + key_length bytes))
