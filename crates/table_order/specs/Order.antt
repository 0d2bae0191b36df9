-- The order of fields, and the rows of a table in the order of the fields of a column.
use Rattle.std.specs.Prelude.{◌≡◌, ◌==◌, ℕ, ℤ, pos, Bool, List, [], if◌then◌else◌, length, map}
use Rattle.std.specs.Cmp.Lexicographic.{slice_cmp}
use Rattle.std.specs.List.{range_with_len}
use Rattle.std.specs.List.Sorted.{IsPermutation, IsStrictlySortedBy}
use Rattle.std.specs.Ordering.{flip_args, int_cmp, nat_cmp, on, then_cmp}
use Rattle.std.specs.declared.cmp.Ordering.{Ordering}
use Rattle.csv_rows.specs.Records.{field_of, record_at}
use Rattle.table_order.specs.Numbers.{is_number, units_of}
use Rattle.table_order.specs.declared.order.By.{By}
use Rattle.table_order.specs.declared.order.By.TheVariants as by
use Rattle.table_order.specs.declared.order.Order.{Order}

-- an order, or the same from its end
abbrev pub turned : {K : Type 0} → Bool → (K → K → Ordering) → K → K → Ordering
turned down cmp = if down then flip_args cmp else cmp

-- texts byte by byte
abbrev pub bytes_cmp : List ℕ → List ℕ → Ordering
bytes_cmp = slice_cmp nat_cmp

-- numbers come first, then other texts, and empty fields last
abbrev pub class_of : ℕ → List ℕ → ℕ
class_of places field = if is_number places field then 0 else (if length field == 0 then 2 else 1)

-- the number of a field; all that are none count alike
abbrev pub number_of : ℕ → List ℕ → ℤ
number_of places field = if is_number places field then units_of places field else pos 0

-- the bytes of a field that is no number; all numbers count alike
abbrev pub other_of : ℕ → List ℕ → List ℕ
other_of places field = if is_number places field then [] else field

-- fields as numbers with this many places: the numbers by their values, after them other texts byte by byte, and empty fields
-- last, from the least on or from the greatest on
abbrev pub numbers_cmp : ℕ → Bool → List ℕ → List ℕ → Ordering
numbers_cmp places down = then_cmp (on (class_of places) nat_cmp) (then_cmp (turned down (on (number_of places) int_cmp)) (turned down (on (other_of places) bytes_cmp)))

-- the order of fields: of their bytes, of numbers with this many places
unfoldable pub fields_cmp : By → Bool → List ℕ → List ℕ → Ordering
fields_cmp by.Bytes down = turned down bytes_cmp
fields_cmp (by.Numbers places) down = numbers_cmp places down

-- the rows by their places: in the order of the fields of a column, and rows whose fields tie as they lie in the table
abbrev pub places_cmp : Order → List (List (List ℕ)) → ℕ → ℕ → Ordering
places_cmp order rows = then_cmp (on (λ row. field_of rows row order.column) (fields_cmp order.by order.down)) nat_cmp

-- the second list has the rows of the first, each once, in this order
pub record AreInOrder (order : Order) (rows ordered : List (List (List ℕ))) : Type 0 where
  pub places : List ℕ
  pub all : IsPermutation (range_with_len 0 (length rows)) places
  pub rising : IsStrictlySortedBy (places_cmp order rows) places
  pub are : ordered ≡ map (record_at rows) places
