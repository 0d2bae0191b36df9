-- Layouts that fit each row of some items, so that only the lanes of such a row need to be read.
use Rattle.std.specs.Prelude.{◌≡◌, ◌*◌, ℕ, false, All, IfSome, List, None, Option, length, slice_get, take}
use Rattle.std.specs.Global.{Vec}
use Rattle.std.specs.List.{position_from}
use Rattle.par_model.specs.Refuse.{is_unreadable}
use Rattle.par_model.specs.declared.plan.Item.{Item}
use Rattle.par_model.specs.declared.state.SlotState.{SlotState}
use Rattle.partial_agg.specs.Items.{is_item_unreadable, item_value, items_state}
use Rattle.partial_agg.specs.Lanes.{Fits, lanes_of, slot_in}
use Rattle.partial_agg.specs.Values.{slot_of_value}
use Rattle.partial_agg.specs.declared.layout.Layout.{Layout}
use Rattle.partial_agg.specs.declared.layout.SlotPart.{SlotPart}

-- the items of these slots can read their fields of a row
abbrev pub AreReadable : List Item → List (List ℕ) → List ℕ → Type 0
AreReadable items row slots = All (λ at. is_item_unreadable row (slice_get items at) ≡ false) slots

-- the items of the lanes of a layout can read their fields of a row
abbrev pub AreLanesReadable : Layout → List Item → List (List ℕ) → Type 0
AreLanesReadable layout items row = AreReadable items row (take layout.width layout.kept)

-- an item can read its field of a row, and its slot is what it has to be, given the row's lanes
abbrev pub IsToldItem : Layout → List Item → List (List ℕ) → SlotPart → Option Item → Type 0
IsToldItem layout items row part item = (slot_in (lanes_of layout (items_state row items).slots) part ≡ slot_of_value (item_value row item)) × (is_item_unreadable row item ≡ false)

-- the slots of each row that has readable lanes follow from them, and all its items can read their fields
abbrev pub FitsItems : Layout → List Item → Type 0
FitsItems layout items = (row : List (List ℕ)) → AreLanesReadable layout items row → Fits layout (items_state row items).slots × (position_from (is_unreadable row) 0 items ≡ None)

-- if items are known to fit, they do
abbrev pub IsFitted : Layout → Option (Vec Item) → Type 0
IsFitted layout fitted = IfSome fitted (λ items. FitsItems layout items.items)

-- the lanes of these states are all there, and items that are known to fit do
pub record AreLaid (layout : Layout) (fitted : Option (Vec Item)) (rows : List ℕ) (lanes : List SlotState) : Type 0 where
  pub whole : length lanes ≡ length rows * layout.width
  pub fits : IsFitted layout fitted
