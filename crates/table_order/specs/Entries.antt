-- What is sorted in place of rows: a rank that a comparison can read, what of the field it leaves open, and the row's place.
use Rattle.std.specs.Prelude.{◌≡◌, ◌==◌, ◌&&◌, ◌-◌, ◌+◌, ◌^◌, ℕ, Bool, List, [], All, get_or, if◌then◌else◌, length, map, min, nat_lt}
use Rattle.std.specs.Ordering.{nat_cmp, on, ordering_reverse, then_cmp}
use Rattle.std.specs.Str.Parse.{starts_with_minus, without_leading_sign}
use Rattle.std.specs.declared.cmp.Ordering.{Ordering}
use Rattle.table_order.specs.Numbers.{is_number, size_of}
use Rattle.csv.specs.Writing.{default_writer, escaped, row_text}
use Rattle.csv_rows.specs.Records.{field_of}
use Rattle.table_order.specs.Order.{AreInOrder, bytes_cmp, fields_cmp, turned}
use Rattle.table_order.specs.declared.entry.Entry.{Entry}
use Rattle.table_order.specs.declared.order.By.{By}
use Rattle.table_order.specs.declared.order.By.TheVariants as by
use Rattle.table_order.specs.declared.order.Order.{Order}

-- the rank of a number of this size, of 64 bits; those out of range share the first or the last
abbrev pub rank_of_size : Bool → ℕ → ℕ
rank_of_size minus size = if minus then 2 ^ 63 - min size (2 ^ 63) else 2 ^ 63 + min size (2 ^ 63 - 1)

-- the rank from the other end
abbrev pub turned_rank : Bool → ℕ → ℕ
turned_rank down rank = if down then 2 ^ 64 - 1 - rank else rank

-- the rank of a field: a field with a lower one comes before a field with a higher one
abbrev pub rank_of : By → Bool → List ℕ → ℕ
rank_of by.Bytes down field = 0
rank_of (by.Numbers places) down field =
    if is_number places field then turned_rank down (rank_of_size (starts_with_minus field) (size_of places (without_leading_sign field))) else 2 ^ 64 - 1

-- whether fields of this rank tie
abbrev pub is_exact : ℕ → Bool
is_exact rank = nat_lt 0 rank && nat_lt rank (2 ^ 64 - 1)

-- what is left to compare of a field of this rank
abbrev pub left_of : ℕ → List ℕ → List ℕ
left_of rank field = if is_exact rank then [] else field

-- 1 for an empty field
abbrev pub is_blank : List ℕ → ℕ
is_blank field = if length field == 0 then 1 else 0

-- the entry of a row, by its field
pub record IsEntry (order : Order) (field : List ℕ) (entry : Entry) : Type 0 where
  pub rank : entry.rank ≡ rank_of order.by order.down field
  pub left : entry.left.now ≡ left_of entry.rank field

-- entries of rows; a field is as a line has it, with each quote in it twice
abbrev pub AreEntries : Order → List (List (List ℕ)) → List Entry → Type 0
AreEntries order rows entries = All (λ entry. IsEntry order (escaped default_writer (field_of rows entry.at order.column)) entry) entries

-- the line of an entry's row
abbrev pub line_at : List (List ℕ) → Entry → List ℕ
line_at lines entry = get_or lines entry.at []

-- lines are those of rows in this order
pub record IsOrderedText (order : Order) (rows : List (List (List ℕ))) (lines : List (List ℕ)) : Type 0 where
  pub ordered : List (List (List ℕ))
  pub are : AreInOrder order rows ordered
  pub is : lines ≡ map (row_text default_writer) ordered

-- an answer, or that from the other end
abbrev pub turned_answer : Bool → Ordering → Ordering
turned_answer down answer = if down then ordering_reverse answer else answer

-- fields that are no numbers: byte by byte, and empty ones last
abbrev pub others_cmp : Bool → List ℕ → List ℕ → Ordering
others_cmp down = then_cmp (on is_blank nat_cmp) (turned down bytes_cmp)

-- entries by their ranks, then by what is left of their fields, then by their places
abbrev pub entries_cmp : Order → Entry → Entry → Ordering
entries_cmp order = then_cmp (on (λ entry. entry.rank) nat_cmp) (then_cmp (on (λ entry. entry.left.now) (fields_cmp order.by order.down)) (on (λ entry. entry.at) nat_cmp))
