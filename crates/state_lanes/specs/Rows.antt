-- What the lanes of a plan are over some rows, and that the states of groups are told by them.
use Rattle.std.specs.Prelude.{◌≡◌, ℕ, List, [], filter_map, length, map}
use Rattle.par_model.specs.Aggregate.{number_slot, state_of_rows, values_of}
use Rattle.par_model.specs.Number.{decimal_of}
use Rattle.par_model.specs.Plan.{Plan}
use Rattle.par_model.specs.declared.plan.Item.{Item}
use Rattle.par_model.specs.declared.state.AggState.{AggState}
use Rattle.par_model.specs.declared.state.SlotState.{SlotState}
use Rattle.state_lanes.specs.Lanes.{item_slots, lane_slots, lanes_of}
use Rattle.state_lanes.specs.declared.lanes.Lane.{Lane}
use Rattle.state_lanes.specs.declared.lanes.Lane.TheVariants.{Numbers, Values}

-- the slot of a lane over some rows
abbrev pub slot_over : List (List (List ℕ)) → Lane → SlotState
slot_over rows (Values column) = number_slot (values_of column rows) []
slot_over rows (Numbers column places) = number_slot (values_of column rows) (filter_map (decimal_of places) (values_of column rows))

-- slots that are told by the slots of the lanes
pub record AreTold (items : List Item) (slots : List SlotState) : Type 0 where
  pub lanes : List SlotState
  pub many : length lanes ≡ length (lanes_of items)
  pub are : slots ≡ item_slots (lanes_of items) lanes items

-- the state of some rows is told by the slots of its lanes over these rows
abbrev pub RowsAreTold : Type 0
RowsAreTold = (plan : Plan) (rows : List (List (List ℕ))) → (state_of_rows plan rows).slots ≡ item_slots (lanes_of plan.items) (map (slot_over rows) (lanes_of plan.items)) plan.items

-- the slots of the lanes come back from a state that they tell
abbrev pub LanesComeBack : Type 0
LanesComeBack = (items : List Item) (slots : List SlotState) → length slots ≡ length (lanes_of items) → lane_slots (lanes_of items) items (item_slots (lanes_of items) slots items) ≡ slots
