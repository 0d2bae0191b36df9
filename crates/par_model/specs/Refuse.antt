-- Which rows are refused, and for which cause.
use Rattle.std.specs.Prelude.{◌==◌, ◌&&◌, ℕ, Bool, true, false, not, List, length, Option, Some, None, if◌then◌else◌, is_none, nat_lt, option_and_then, option_map, slice_get}
use Rattle.std.specs.List.{enumerate_from, filter_map, position_from}
use Rattle.std.specs.Option.{option_map_or}
use Rattle.par_model.specs.Keep.{deciding, is_kept}
use Rattle.par_model.specs.Key.{key_of}
use Rattle.par_model.specs.Number.{decimal_of}
use Rattle.par_model.specs.Plan.{Plan}
use Rattle.par_model.specs.Record.{field_of, is_null}
use Rattle.par_model.specs.declared.plan.Filter.{Filter}
use Rattle.par_model.specs.declared.plan.FilterTest.{FilterTest}
use Rattle.par_model.specs.declared.plan.FilterTest.TheVariants as test
use Rattle.par_model.specs.declared.plan.Item.{Item}
use Rattle.par_model.specs.declared.plan.ItemKind.{ItemKind}
use Rattle.par_model.specs.declared.plan.ItemKind.TheVariants as kind
use Rattle.par_model.specs.declared.refusal.Refusal.{Refusal}

-- the longest encoded key of a group
abbrev pub longest_key : ℕ
longest_key = 248

-- the cause of a row that has more or fewer fields than the header
abbrev pub width_cause : ℕ
width_cause = 1

-- the cause of a row whose encoded key is too long
abbrev pub key_cause : ℕ
key_cause = 2

-- the cause of a row in which an aggregate cannot read its field
abbrev pub item_cause : ℕ
item_cause = 3

-- the cause of a row in which a filter cannot read its field
abbrev pub filter_cause : ℕ
filter_cause = 4

-- whether an aggregate reads numbers
abbrev pub reads_numbers : ItemKind → Bool
reads_numbers kind.Rows = false
reads_numbers kind.Count = false
reads_numbers kind.Sum = true
reads_numbers kind.Min = true
reads_numbers kind.Max = true
reads_numbers kind.Avg = true

-- whether a field is neither null nor a number of at most this many places
abbrev pub is_no_number : ℕ → List ℕ → Bool
is_no_number places field = not (is_null field) && is_none (decimal_of places field)

-- whether an aggregate cannot read its field of a row
abbrev pub is_unreadable : List (List ℕ) → Item → Bool
is_unreadable row item = reads_numbers item.kind && is_no_number item.places (field_of row item.column)

-- whether a test is of numbers
abbrev pub is_of_numbers : FilterTest → Bool
is_of_numbers (test.Number op value) = true
is_of_numbers (test.Is text) = false
is_of_numbers (test.IsNot text) = false

-- whether a filter cannot read its field of a row
abbrev pub is_misread : List (List ℕ) → Filter → Bool
is_misread row filter = is_of_numbers filter.test && is_no_number filter.places (field_of row filter.column)

-- a refusal for a cause that names no item
abbrev pub refused_for : ℕ → Option Refusal
refused_for cause = Some (record { cause = cause; item = 0 })

-- a refusal for the item at a place
abbrev pub refused_at : ℕ → Refusal
refused_at place = record { cause = item_cause; item = place }

-- the refusal for the filter at a place, if it cannot read its field of a row
abbrev pub refused_by : Plan → List (List ℕ) → ℕ → Option Refusal
refused_by plan row place = if option_map_or (is_misread row) (slice_get plan.filters place) false then Some (record { cause = filter_cause; item = place }) else None

-- why a row is refused, the first that holds: its number of fields; for a row that is not kept, that the filter that
-- decides cannot read its field; and for a row that is kept its key's length and then the first item, from the left, that
-- cannot read its field
unfoldable pub refusal : Plan → ℕ → List (List ℕ) → Option Refusal
refusal plan width row =
    if not (length row == width) then refused_for width_cause
    else (if not (is_kept plan row) then option_and_then (refused_by plan row) (deciding plan row)
    else (if nat_lt longest_key (length (key_of plan row)) then refused_for key_cause
    else option_map refused_at (position_from (is_unreadable row) 0 plan.items)))

-- the number of a row with the cause for which it is refused, if it is
abbrev pub numbered_refusal : Plan → ℕ → ℕ × List (List ℕ) → Option (ℕ × Refusal)
numbered_refusal plan width row = option_map (λ cause. (row.0, cause)) (refusal plan width row.1)

-- the rows that are refused, each with its number, counted from 1, and its cause
unfoldable pub refused_rows : Plan → ℕ → List (List (List ℕ)) → List (ℕ × Refusal)
refused_rows plan width rows = filter_map (numbered_refusal plan width) (enumerate_from 1 rows)
