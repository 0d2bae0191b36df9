-- The lanes of a plan's aggregates: each column as its aggregates read it, once.
use Rattle.std.specs.Prelude.{◌-◌, ◌==◌, ◌&&◌, ◌||◌, ◌++◌, ℕ, Bool, true, false, List, [], ◌∷◌, None, Option, Some, fold, if◌then◌else◌, length, map, replicate}
use Rattle.std.specs.Option.{option_map_or}
use Rattle.par_model.specs.Aggregate.{no_values}
use Rattle.par_model.specs.declared.plan.Item.{Item}
use Rattle.par_model.specs.declared.plan.ItemKind.{ItemKind}
use Rattle.par_model.specs.declared.plan.ItemKind.TheVariants as kind
use Rattle.par_model.specs.declared.state.SlotState.{SlotState}
use Rattle.state_lanes.specs.declared.lanes.Lane.{Lane}
use Rattle.state_lanes.specs.declared.lanes.Lane.TheVariants.{Numbers, Values}

-- the lane of an aggregate of this kind over a column whose numbers have this many places: a count of rows has none
abbrev pub lane_by : ItemKind → ℕ → ℕ → Option Lane
lane_by kind.Rows column places = None
lane_by kind.Count column places = Some (Values column)
lane_by kind.Sum column places = Some (Numbers column places)
lane_by kind.Min column places = Some (Numbers column places)
lane_by kind.Max column places = Some (Numbers column places)
lane_by kind.Avg column places = Some (Numbers column places)

abbrev pub lane_of : Item → Option Lane
lane_of item = lane_by item.kind item.column item.places

abbrev pub has_numbers : Lane → Bool
has_numbers (Values column) = false
has_numbers (Numbers column places) = true

abbrev pub is_same : Lane → Lane → Bool
is_same (Values column) (Values other) = column == other
is_same (Values column) (Numbers other more) = false
is_same (Numbers column places) (Values other) = false
is_same (Numbers column places) (Numbers other more) = (column == other) && (places == more)

abbrev pub has_lane : List Lane → Lane → Bool
has_lane [] lane = false
has_lane (one ∷ lanes) lane = is_same one lane || has_lane lanes lane

-- lanes with one more, unless it is there
abbrev pub with_lane : List Lane → Option Lane → List Lane
with_lane lanes None = lanes
with_lane lanes (Some lane) = if has_lane lanes lane then lanes else lanes ++ lane ∷ []

-- the lanes of some aggregates, each once, in the order in which they come first
unfoldable pub lanes_of : List Item → List Lane
lanes_of items = fold (λ lanes item. with_lane lanes (lane_of item)) [] items

-- which lanes have numbers
abbrev pub kinds_of : List Lane → List Bool
kinds_of lanes = map has_numbers lanes

-- the slot of a lane, among those of some lanes
abbrev pub slot_at : List Lane → List SlotState → Lane → SlotState
slot_at [] slots lane = no_values
slot_at (one ∷ lanes) [] lane = no_values
slot_at (one ∷ lanes) (slot ∷ slots) lane = if is_same one lane then slot else slot_at lanes slots lane

-- the slot of an aggregate: that of its lane
abbrev pub slot_in : List Lane → List SlotState → Item → SlotState
slot_in lanes slots item = option_map_or (slot_at lanes slots) (lane_of item) no_values

-- the eight slots of a state, from those of its lanes
unfoldable pub item_slots : List Lane → List SlotState → List Item → List SlotState
item_slots lanes slots items = map (slot_in lanes slots) items ++ replicate (8 - length items) no_values

-- whether an aggregate reads this lane
abbrev pub is_of : Lane → Item → Bool
is_of lane item = option_map_or (λ one. is_same one lane) (lane_of item) false

-- the slot of the first aggregate that reads a lane
abbrev pub first_of : List Item → List SlotState → Lane → SlotState
first_of [] slots lane = no_values
first_of (item ∷ items) [] lane = no_values
first_of (item ∷ items) (slot ∷ slots) lane = if is_of lane item then slot else first_of items slots lane

-- the slots of some lanes, from those of a state
unfoldable pub lane_slots : List Lane → List Item → List SlotState → List SlotState
lane_slots lanes items slots = map (first_of items slots) lanes
