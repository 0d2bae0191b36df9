-- How a state is stored in the words of a cell: the number of rows, then of each slot the count, the sum in two words,
-- the least and the greatest value.
use Rattle.std.specs.Prelude.{◌≡◌, ◌<◌, ◌+◌, ◌*◌, ◌/◌, ◌%◌, ◌^◌, ℕ, ℤ, List, [], ◌∷◌, FitsSigned, length, map, slice_index}
use Rattle.std.specs.Int.{cast_signed, cast_unsigned, w64, w128}
use Rattle.std.specs.List.{AllByRecursion, concat, range_with_len}
use Rattle.par_model.specs.declared.state.AggState.{AggState}
use Rattle.par_model.specs.declared.state.SlotState.{SlotState}
use Rattle.agg_cell.specs.declared.words.TheConstants.{FIRST_SLOT, SLOT_WORDS}

-- the words of a slot; signed numbers are in two's complement, one of 128 bits as its low and its high word
abbrev pub slot_words : SlotState → List ℕ
slot_words slot = slot.count ∷ cast_unsigned w128 slot.sum % 2 ^ 64 ∷ cast_unsigned w128 slot.sum / 2 ^ 64 ∷ cast_unsigned w64 slot.least ∷ cast_unsigned w64 slot.greatest ∷ []

-- the words of a state
abbrev pub state_words : AggState → List ℕ
state_words state = state.rows ∷ concat (map slot_words state.slots)

-- the number of 128 bits with this low and this high word
abbrev pub joined_sum : ℕ → ℕ → ℤ
joined_sum low high = cast_signed w128 (high * 2 ^ 64 + low)

-- the slot whose words begin at a place
abbrev pub slot_at : List ℕ → ℕ → SlotState
slot_at words at = record {
  count = slice_index words at;
  sum = joined_sum (slice_index words (at + 1)) (slice_index words (at + 2));
  least = cast_signed w64 (slice_index words (at + 3));
  greatest = cast_signed w64 (slice_index words (at + 4));
}

-- the word at which slot i begins
abbrev pub slot_start : ℕ → ℕ
slot_start i = FIRST_SLOT + SLOT_WORDS * i

-- the state that words stand for: its slots are those from 0 to 7
abbrev pub state_of_words : List ℕ → AggState
state_of_words words = record { rows = slice_index words 0; slots = map (λ i. slot_at words (slot_start i)) (range_with_len 0 8) }

-- a slot whose numbers are those of their types
pub record IsSlot (slot : SlotState) : Type 0 where
  pub count : slot.count < 2 ^ 64
  pub sum : FitsSigned w128 slot.sum
  pub least : FitsSigned w64 slot.least
  pub greatest : FitsSigned w64 slot.greatest

-- a state that is a value of its type: it has eight slots, and its numbers are those of their types
pub record IsState (state : AggState) : Type 0 where
  pub rows : state.rows < 2 ^ 64
  pub long : length state.slots ≡ 8
  pub numbers : AllByRecursion IsSlot state.slots
