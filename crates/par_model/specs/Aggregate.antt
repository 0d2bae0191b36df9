-- The aggregates of a group: count, sum, min and max of SQL over the group's rows, where a null counts as no value.
use Rattle.std.specs.Prelude.{◌-◌, ◌+ℤ◌, ◌&&◌, ◌++◌, ℕ, ℤ, pos, List, [], ◌∷◌, not, map, length, fold, filter, filter_map, replicate, bytes_eq}
use Rattle.std.specs.Int.{int_max, int_min}
use Rattle.par_model.specs.Keep.{is_kept}
use Rattle.par_model.specs.Key.{key_of}
use Rattle.par_model.specs.Number.{decimal_of}
use Rattle.par_model.specs.Plan.{Plan}
use Rattle.par_model.specs.Record.{field_of, is_null}
use Rattle.par_model.specs.declared.plan.Item.{Item}
use Rattle.par_model.specs.declared.plan.ItemKind.{ItemKind}
use Rattle.par_model.specs.declared.plan.ItemKind.TheVariants as kind
use Rattle.par_model.specs.declared.state.AggState.{AggState}
use Rattle.par_model.specs.declared.state.SlotState.{SlotState}

-- the rows of a group: those that are kept and have its encoded key
abbrev pub rows_of : Plan → List (List (List ℕ)) → List ℕ → List (List (List ℕ))
rows_of plan rows key = filter (λ row. is_kept plan row && bytes_eq (key_of plan row) key) rows

-- the fields of a column that are not null
abbrev pub values_of : ℕ → List (List (List ℕ)) → List (List ℕ)
values_of column rows = filter (λ field. not (is_null field)) (map (λ row. field_of row column) rows)

-- their sum, without a bound
abbrev pub total : List ℤ → ℤ
total numbers = fold (λ sum n. sum +ℤ n) (pos 0) numbers

-- the least of some numbers, and 0 of none
abbrev pub least : List ℤ → ℤ
least [] = pos 0
least (n ∷ numbers) = fold int_min n numbers

-- the greatest of some numbers, and 0 of none
abbrev pub greatest : List ℤ → ℤ
greatest [] = pos 0
greatest (n ∷ numbers) = fold int_max n numbers

-- a slot of no values
abbrev pub no_values : SlotState
no_values = record { count = 0; sum = pos 0; least = pos 0; greatest = pos 0 }

-- how many values there are, and what they are together as numbers
abbrev pub number_slot : List (List ℕ) → List ℤ → SlotState
number_slot values numbers = record { count = length values; sum = total numbers; least = least numbers; greatest = greatest numbers }

-- the slot of an aggregate over these values of its column, as numbers with this many places
abbrev pub slot_by : ItemKind → ℕ → List (List ℕ) → SlotState
slot_by kind.Rows places values = no_values
slot_by kind.Count places values = number_slot values []
slot_by kind.Sum places values = number_slot values (filter_map (decimal_of places) values)
slot_by kind.Min places values = number_slot values (filter_map (decimal_of places) values)
slot_by kind.Max places values = number_slot values (filter_map (decimal_of places) values)
slot_by kind.Avg places values = number_slot values (filter_map (decimal_of places) values)

-- the slot of an aggregate over some rows
abbrev pub slot_of : List (List (List ℕ)) → Item → SlotState
slot_of rows item = slot_by item.kind item.places (values_of item.column rows)

-- the state of some rows: how many they are, the slot of each aggregate, and slots of no values up to eight
unfoldable pub state_of_rows : Plan → List (List (List ℕ)) → AggState
state_of_rows plan rows = record { rows = length rows; slots = map (slot_of rows) plan.items ++ replicate (8 - length plan.items) no_values }

-- the state of a group
abbrev pub state_of : Plan → List (List (List ℕ)) → List ℕ → AggState
state_of plan rows key = state_of_rows plan (rows_of plan rows key)
