-- The columns of a table, as the words of its query name them.
use Rattle.std.specs.Prelude.{◌==◌, ◌+◌, [], ◌∷◌, ℕ, false, true, List, Option, None, Some, bytes_eq, codes, if◌then◌else◌, is_some, length, slice_get}
use Rattle.std.specs.List.{after_first, before_first, list_any, position_from, slice_split}
use Rattle.shown_words.specs.Asking.{NamedOrder}
use Rattle.shown_words.specs.Taking.{is_equals}
use Rattle.shown_words.specs.declared.columns.Column.{Column}

-- the parts of a value between commas
abbrev pub parts_of : List ℕ → List (List ℕ)
parts_of value = slice_split (λ byte. byte == 44) value

-- the same, and none if there is no value
abbrev pub parts_given : Option (List ℕ) → List (List ℕ)
parts_given None = []
parts_given (Some value) = parts_of value

-- the value that a word gives an option after an equals sign
abbrev pub value_in : List ℕ → List ℕ → Option (List ℕ)
value_in option word = if list_any is_equals word then (if bytes_eq (before_first is_equals word) option then Some (after_first is_equals word) else None) else None

-- the value of an option in the words of a query: the next word, or what comes after an equals sign
unfoldable pub value_of : List ℕ → List (List ℕ) → Option (List ℕ)
value_of option [] = None
value_of option (word ∷ words) =
    if bytes_eq word option then slice_get words 0
    else (if is_some (value_in option word) then value_in option word else value_of option words)

-- the columns to group by, and the items
abbrev pub groups_in : List (List ℕ) → List (List ℕ)
groups_in words = parts_given (value_of (codes "--group") words)

abbrev pub items_in : List (List ℕ) → List (List ℕ)
items_in words = parts_given (value_of (codes "--agg") words)

-- the column of an item's place, or of a key's, after this many keys
abbrev pub column_by : ℕ → Option ℕ → Option ℕ → Option Column
column_by keys (Some item) key = Some (record { at = keys + item; is_item = true })
column_by keys None (Some key) = Some (record { at = key; is_item = false })
column_by keys None None = None

-- the column that an order names: an item, unless it is by integers, and otherwise a key
abbrev pub column_in : List (List ℕ) → NamedOrder → Option Column
column_in words order =
    column_by (length (groups_in words)) (if order.numeric then None else position_from (bytes_eq order.name) 0 (items_in words)) (position_from (bytes_eq order.name) 0 (groups_in words))
