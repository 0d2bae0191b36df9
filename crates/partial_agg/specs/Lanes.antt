-- States that lie as some of their slots, their lanes, from which the others follow by a layout.
use Rattle.std.specs.Prelude.{◌≡◌, ◌+◌, ◌++◌, ℕ, List, [], ◌∷◌, drop, get_or, length, map, take}
use Rattle.par_model.specs.Aggregate.{no_values}
use Rattle.par_model.specs.declared.state.AggState.{AggState}
use Rattle.par_model.specs.declared.state.SlotState.{SlotState}
use Rattle.partial_agg.specs.State.{without_integers}
use Rattle.partial_agg.specs.declared.layout.Layout.{Layout}
use Rattle.partial_agg.specs.declared.layout.SlotPart.{SlotPart}
use Rattle.partial_agg.specs.declared.layout.SlotPart.TheVariants as part

-- the slot that follows from some lanes
abbrev pub slot_in : List SlotState → SlotPart → SlotState
slot_in lanes part.Empty = no_values
slot_in lanes (part.Count lane) = without_integers (get_or lanes lane no_values)
slot_in lanes (part.Whole lane) = get_or lanes lane no_values

-- the slots that follow from some lanes
abbrev pub slots_in : List SlotPart → List SlotState → List SlotState
slots_in parts lanes = map (slot_in lanes) parts

-- the lanes of some slots
abbrev pub lanes_of : Layout → List SlotState → List SlotState
lanes_of layout slots = map (λ at. get_or slots at no_values) (take layout.width layout.kept)

-- slots that follow from their lanes
abbrev pub Fits : Layout → List SlotState → Type 0
Fits layout slots = slots_in layout.parts (lanes_of layout slots) ≡ slots

-- the layout in which each slot is a lane
pub record IsWide (layout : Layout) : Type 0 where
  pub parts : layout.parts ≡ part.Whole 0 ∷ part.Whole 1 ∷ part.Whole 2 ∷ part.Whole 3 ∷ part.Whole 4 ∷ part.Whole 5 ∷ part.Whole 6 ∷ part.Whole 7 ∷ []
  pub kept : layout.kept ≡ 0 ∷ 1 ∷ 2 ∷ 3 ∷ 4 ∷ 5 ∷ 6 ∷ 7 ∷ []
  pub width : layout.width ≡ 8

-- lanes of which some, from a place on, are replaced
abbrev pub with_lanes : List SlotState → ℕ → List SlotState → List SlotState
with_lanes lanes first new = take first lanes ++ (new ++ drop (first + length new) lanes)

-- the states of which these are the numbers of rows, and their lanes one state after the other
abbrev pub states_in : Layout → List ℕ → List SlotState → List AggState
states_in layout [] lanes = []
states_in layout (rows ∷ more) lanes = record { rows = rows; slots = slots_in layout.parts (take layout.width lanes) } ∷ states_in layout more (drop layout.width lanes)
