-- How the value of an option reads.
use Rattle.std.specs.Prelude.{◌==◌, ◌||◌, ◌&&◌, ◌-◌, ◌∷◌, [], ℕ, ℤ, Bool, true, false, not, List, Option, Some, None, bytes_eq, codes, drop, find, if◌then◌else◌, length, map, nat_le, nat_lt, option_and_then, option_map, slice_index, slice_range}
use Rattle.std.specs.Char.{is_ascii_digit}
use Rattle.std.specs.List.{after_first, before_first, list_all, list_any, position_or_len, slice_split}
use Rattle.std.specs.Option.{option_map_or}
use Rattle.std.specs.Str.Parse.{digits_value}
use Rattle.par_model.specs.Named.{NamedFilter, NamedItem}
use Rattle.par_model.specs.Number.{decimal_of}
use Rattle.par_model.specs.declared.plan.FilterOp.{FilterOp}
use Rattle.par_model.specs.declared.plan.FilterOp.TheVariants as op
use Rattle.par_model.specs.declared.plan.FilterTest.{FilterTest}
use Rattle.par_model.specs.declared.plan.FilterTest.TheVariants as test
use Rattle.par_model.specs.declared.plan.ItemKind.{ItemKind}
use Rattle.par_model.specs.declared.plan.ItemKind.TheVariants as kind
use Rattle.par_model.specs.declared.plan.TheConstants.{MOST_PLACES}
use Rattle.par_model.specs.declared.text.TheConstants.{LONGEST_TEXT}

-- the parts between commas
abbrev pub parts_of : List ℕ → List (List ℕ)
parts_of text = slice_split (λ byte. byte == 44) text

-- one to eight names between commas, none of them empty
abbrev pub names_in : List ℕ → Option (List (List ℕ))
names_in text = if nat_le (length (parts_of text)) 8 && not (list_any (λ part. length part == 0) (parts_of text)) then Some (parts_of text) else None

-- how many places numbers have: those of the column of a name, or of any column
abbrev pub Places : Type 0
Places = List (Option (List ℕ) × ℕ)

-- the places of a column: those of the first entry for it; none, if there is no such entry
abbrev pub places_of : Places → List ℕ → ℕ
places_of places name = option_map_or (λ entry. entry.1) (find (λ entry. option_map_or (bytes_eq name) entry.0 true) places) 0

-- the aggregate of a column, by its name
abbrev pub kind_in : List ℕ → Option ItemKind
kind_in text =
    if bytes_eq text (codes "count") then Some kind.Count
    else (if bytes_eq text (codes "sum") then Some kind.Sum
    else (if bytes_eq text (codes "min") then Some kind.Min
    else (if bytes_eq text (codes "max") then Some kind.Max
    else (if bytes_eq text (codes "avg") then Some kind.Avg else None))))

-- an aggregate of the column of this name
abbrev pub item_over : Places → List ℕ → ItemKind → NamedItem
item_over places name kind = record { kind = kind; column = Some name; places = places_of places name }

-- an aggregate: `count`, or a kind and the name of a column around the first colon
abbrev pub item_in : Places → List ℕ → Option NamedItem
item_in places text =
    if bytes_eq text (codes "count") then Some (record { kind = kind.Rows; column = None; places = 0 })
    else (if length (after_first (λ byte. byte == 58) text) == 0 then None
    else option_map (item_over places (after_first (λ byte. byte == 58) text)) (kind_in (before_first (λ byte. byte == 58) text)))

-- the values, if all are there
abbrev pub all_some : {A : Type 0} → List (Option A) → Option (List A)
all_some [] = Some []
all_some (None ∷ rest) = None
all_some (Some x ∷ rest) = option_map (λ xs. x ∷ xs) (all_some rest)

-- one to eight aggregates between commas
abbrev pub items_in : Places → List ℕ → Option (List NamedItem)
items_in places text = if nat_le (length (parts_of text)) 8 then all_some (map (item_in places) (parts_of text)) else None

-- a byte of a relation: `<`, `=`, `>` or `!`
abbrev pub is_relation_byte : ℕ → Bool
is_relation_byte byte = (byte == 60) || (byte == 61) || (byte == 62) || (byte == 33)

-- the longest relation that a text begins with, and what comes after it
abbrev pub relation_in : List ℕ → Option (FilterOp × List ℕ)
relation_in text =
    if (slice_index text 0 == 33) && (slice_index text 1 == 61) then Some (op.NotEqual, drop 2 text)
    else (if (slice_index text 0 == 60) && (slice_index text 1 == 61) then Some (op.LessEqual, drop 2 text)
    else (if (slice_index text 0 == 62) && (slice_index text 1 == 61) then Some (op.GreaterEqual, drop 2 text)
    else (if slice_index text 0 == 61 then Some (op.Equal, drop 1 text)
    else (if slice_index text 0 == 60 then Some (op.Less, drop 1 text)
    else (if slice_index text 0 == 62 then Some (op.Greater, drop 1 text) else None)))))

-- a number with this many places and no space around it
abbrev pub bare_number_in : ℕ → List ℕ → Option ℤ
bare_number_in places text = if list_any (λ byte. byte == 32) text then None else decimal_of places text

-- whether a text is between two double quotes
abbrev pub is_quoted : List ℕ → Bool
is_quoted text = nat_le 2 (length text) && ((slice_index text 0 == 34) && (slice_index text (length text - 1) == 34))

-- a text that may come without double quotes: it begins with no relation's byte, and if it has a space it has none at all
abbrev pub is_bare : List ℕ → Bool
is_bare text = not (is_relation_byte (slice_index text 0)) && not (list_any (λ byte. byte == 32) text && list_any is_relation_byte text)

-- the text that comes after a relation: what is between double quotes, and without them all, if it may come so
abbrev pub text_in : List ℕ → Option (List ℕ)
text_in text = if is_quoted text then Some (slice_range text 1 (length text - 1)) else (if is_bare text then Some text else None)

-- such a text that is not too long
abbrev pub short_text_in : List ℕ → Option (List ℕ)
short_text_in text = option_and_then (λ found. if nat_le (length found) LONGEST_TEXT then Some found else None) (text_in text)

-- the test of a relation to the text after it: only two relations have one
abbrev pub text_test : FilterOp → List ℕ → Option FilterTest
text_test op.Equal text = option_map test.Is (short_text_in text)
text_test op.NotEqual text = option_map test.IsNot (short_text_in text)
text_test op.Less text = None
text_test op.LessEqual text = None
text_test op.Greater text = None
text_test op.GreaterEqual text = None

-- the test of a relation to the number after it, and otherwise, if texts may be compared, to the text
abbrev pub test_by : Bool → FilterOp → List ℕ → Option ℤ → Option FilterTest
test_by texts relation text (Some value) = Some (test.Number relation value)
test_by texts relation text None = if texts then text_test relation text else None

-- a test: a relation, and what comes after it
abbrev pub test_in : Bool → ℕ → List ℕ → Option FilterTest
test_in texts places text = option_and_then (λ found. test_by texts found.0 found.1 (bare_number_in places found.1)) (relation_in text)

-- a filter over the column of this name
abbrev pub filter_over : Bool → Places → List ℕ → List ℕ → Option NamedFilter
filter_over texts places name text = option_map (λ found. record { column = name; test = found; places = places_of places name }) (test_in texts (places_of places name) text)

-- a filter: a name with no relation's byte, and what comes after it
abbrev pub filter_in : Bool → Places → List ℕ → Option NamedFilter
filter_in texts places text =
    if position_or_len is_relation_byte text == 0 then None
    else filter_over texts places (before_first is_relation_byte text) (drop (position_or_len is_relation_byte text) text)

-- up to eight filters, each in a text
abbrev pub filters_in : Bool → Places → List (List ℕ) → Option (List NamedFilter)
filters_in texts places values = if nat_le (length values) 8 then all_some (map (filter_in texts places) values) else None

-- one to five digits, with a value up to `most`
abbrev pub number_in : ℕ → List ℕ → Option ℕ
number_in most text =
    if (nat_lt 0 (length text) && nat_le (length text) 5) && (list_all is_ascii_digit text && nat_le (digits_value 10 text) most)
    then Some (digits_value 10 text) else None

-- whether the plan is the one over the shared hash table
abbrev pub hash_in : List ℕ → Option Bool
hash_in text = if bytes_eq text (codes "gather") then Some false else (if bytes_eq text (codes "hash") then Some true else None)

-- a byte that may part fields: one of ASCII that is neither a quote nor ends a line
abbrev pub is_separator : ℕ → Bool
is_separator byte = nat_lt byte 128 && (not (byte == 34) && (not (byte == 13) && not (byte == 10)))

-- the byte that parts fields: `tab`, or one such byte
abbrev pub separator_in : List ℕ → Option ℕ
separator_in text =
    if bytes_eq text (codes "tab") then Some 9
    else (if (length text == 1) && is_separator (slice_index text 0) then Some (slice_index text 0) else None)

-- one to eight texts between commas, not too long together
abbrev pub nulls_in : List ℕ → Option (List ℕ)
nulls_in text = if nat_le (length (parts_of text)) 8 && nat_le (length text) LONGEST_TEXT then Some text else None

-- how many places a column has, `price=2`, or any column, `2`
abbrev pub entry_in : List ℕ → Option (Option (List ℕ) × ℕ)
entry_in text =
    if list_any (λ byte. byte == 61) text then option_map (λ n. (Some (before_first (λ byte. byte == 61) text), n)) (number_in MOST_PLACES (after_first (λ byte. byte == 61) text))
    else option_map (λ n. (None, n)) (number_in MOST_PLACES text)

-- such entries between commas
abbrev pub places_in : List ℕ → Option Places
places_in text = all_some (map entry_in (parts_of text))
