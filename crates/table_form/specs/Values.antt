-- The values of aggregates are numbers of JSON.
use Rattle.std.specs.Prelude.{◌≡◌, ◌<◌, ◌≤◌, ◌^◌, ◌⊎◌, [], ℕ, true, unsigned_abs}
use Rattle.par_model.specs.Table.{value_text}
use Rattle.par_model.specs.declared.plan.ItemKind.{ItemKind}
use Rattle.par_model.specs.declared.plan.TheConstants.{MOST_PLACES}
use Rattle.par_model.specs.declared.state.SlotState.{SlotState}
use Rattle.table_form.specs.Number.{is_json_number}

-- the numbers of a slot are in the range of their types
pub record IsInRange (slot : SlotState) : Type 0 where
  pub count : slot.count < 2 ^ 64
  pub sum : unsigned_abs slot.sum ≤ 2 ^ 127
  pub least : unsigned_abs slot.least ≤ 2 ^ 63
  pub greatest : unsigned_abs slot.greatest ≤ 2 ^ 63

-- what an aggregate prints is empty or a number of JSON
abbrev pub ValuesAreNumbers : Type 0
ValuesAreNumbers = (kind : ItemKind) (places rows : ℕ) (slot : SlotState) → places ≤ MOST_PLACES → rows < 2 ^ 64 → IsInRange slot
    → (value_text kind places rows slot ≡ []) ⊎ (is_json_number (value_text kind places rows slot) ≡ true)
