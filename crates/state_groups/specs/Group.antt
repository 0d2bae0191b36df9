-- A group as bytes: its key, the number of its rows, and its lanes, each a slot of integers or of values only.
use Rattle.std.specs.Prelude.{◌≡◌, ◌<◌, ◌≤◌, ◌^◌, ◌++◌, ℕ, Bool, List, [], ◌∷◌, length}
use Rattle.std.specs.List.{AllZip}
use Rattle.par_model.specs.Key.{encoded}
use Rattle.par_model.specs.Refuse.{longest_key}
use Rattle.par_model.specs.declared.state.SlotState.{SlotState}
use Rattle.state_file.specs.Number.{number_bytes}
use Rattle.state_file.specs.Text.{text_bytes}
use Rattle.state_groups.specs.Slot.{IsSlot, slot_bytes}

-- slots one after another, each of its kind
unfoldable pub slots_bytes : List Bool → List SlotState → List ℕ
slots_bytes [] slots = []
slots_bytes (kind ∷ kinds) [] = []
slots_bytes (kind ∷ kinds) (slot ∷ slots) = slot_bytes kind slot ++ slots_bytes kinds slots

-- what a group has after its key: the rows, the slots
abbrev pub values_bytes : List Bool → ℕ → List SlotState → List ℕ
values_bytes kinds rows slots = number_bytes rows ++ slots_bytes kinds slots

-- a group: its key, the rows, the slots
abbrev pub group_bytes : List Bool → List ℕ → ℕ → List SlotState → List ℕ
group_bytes kinds key rows slots = text_bytes key ++ values_bytes kinds rows slots

-- slots that at most this many rows can give, one for each kind
abbrev pub AreSlots : List Bool → ℕ → List SlotState → Type 0
AreSlots kinds rows slots = AllZip (λ kind slot. IsSlot kind rows slot) kinds slots

-- a key is the encoding of this many columns, and no longer than a key may be
pub record IsKey (columns : ℕ) (key : List ℕ) : Type 0 where
  pub fields : List (List ℕ)
  pub many : length fields ≡ columns
  pub is : key ≡ encoded fields
  pub short : length key ≤ longest_key

-- a group that rows can give
pub record IsGroup (columns : ℕ) (kinds : List Bool) (key : List ℕ) (rows : ℕ) (slots : List SlotState) : Type 0 where
  pub is_key : IsKey columns key
  pub some : 0 < rows
  pub few : rows ≤ 2 ^ 50
  pub are_slots : AreSlots kinds rows slots
