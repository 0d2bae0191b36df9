-- What a plan's items take of a row, by their places.
use Rattle.std.specs.Prelude.{ℕ, ℤ, Bool, false, List, Option, Some, None, map}
use Rattle.par_model.specs.Refuse.{is_unreadable}
use Rattle.par_model.specs.declared.plan.Item.{Item}
use Rattle.par_model.specs.declared.state.AggState.{AggState}
use Rattle.partial_agg.specs.Values.{value_of, values_state}

-- the value that an item takes of a row: no item takes none
abbrev pub item_value : List (List ℕ) → Option Item → Option ℤ
item_value row None = None
item_value row (Some item) = value_of row item

-- whether an item can't read its field of a row
abbrev pub is_item_unreadable : List (List ℕ) → Option Item → Bool
is_item_unreadable row None = false
is_item_unreadable row (Some item) = is_unreadable row item

-- the state of one row of these items
abbrev pub items_state : List (List ℕ) → List Item → AggState
items_state row items = values_state (map (value_of row) items)
