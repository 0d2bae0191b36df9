-- The aggregates of a group over one column, as bytes.
use Rattle.std.specs.Prelude.{◌≡◌, ◌≤◌, ◌*◌, ◌^◌, ◌++◌, ◌&&◌, ◌-ℤ◌, ◌≤ℤ◌, ℕ, Bool, false, List, [], FitsSigned, if◌then◌else◌, nat_lt, unsigned_abs}
use Rattle.std.specs.Int.{w64}
use Rattle.par_model.specs.Aggregate.{no_values}
use Rattle.par_model.specs.declared.state.SlotState.{SlotState}
use Rattle.state_file.specs.Number.{folded, number_bytes}

-- how far the greatest integer is above the least
abbrev pub spread : SlotState → ℕ
spread slot = unsigned_abs (slot.greatest -ℤ slot.least)

-- what integers come to
abbrev pub integers_bytes : SlotState → List ℕ
integers_bytes slot = number_bytes (folded slot.sum) ++ (number_bytes (folded slot.least) ++ number_bytes (spread slot))

-- whether a slot of this many values has integers to write
abbrev pub has_integers : Bool → ℕ → Bool
has_integers integers count = integers && nat_lt 0 count

-- a slot, of integers or of values only
unfoldable pub slot_bytes : Bool → SlotState → List ℕ
slot_bytes integers slot = number_bytes slot.count ++ (if has_integers integers slot.count then integers_bytes slot else [])

-- some integers of 64 bits can come to this
pub record IsOfIntegers (slot : SlotState) : Type 0 where
  pub sum : unsigned_abs slot.sum ≤ 2 ^ 63 * slot.count
  pub least : FitsSigned w64 slot.least
  pub greatest : FitsSigned w64 slot.greatest
  pub order : slot.least ≤ℤ slot.greatest

-- a slot that at most this many rows can give
pub record IsSlot (integers : Bool) (rows : ℕ) (slot : SlotState) : Type 0 where
  pub count : slot.count ≤ rows
  pub numbers : IsOfIntegers slot
  pub plain : has_integers integers slot.count ≡ false → slot ≡ record no_values { count = slot.count }
