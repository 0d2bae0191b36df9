-- A scan of a text without quotes and carriage returns, which fills the lists of a piece.
use Rattle.std.specs.Prelude.{◌≡◌, ◌<◌, ◌≤◌, ◌+◌, ◌==◌, ◌||◌, drop, length, slice_index, ℕ, Bool, true, false, List, [], ◌++◌}
use Rattle.std.specs.Int.{bit_at}
use Rattle.csv.specs.Records.{Rising, last_end}
use Rattle.csv_rows.specs.Plain.{plain_from, plain_records}
use Rattle.csv_rows.specs.Store.{Apart, cut_apart, next_start, stored_apart}

-- a byte that ends a field if each line ends in only a line feed
abbrev pub is_separator : ℕ → Bool
is_separator c = (c == 44) || (c == 10)

-- none of the bytes from a place up to another ends a field
abbrev pub NoSeparator : List ℕ → ℕ → ℕ → Type 0
NoSeparator text from to = (j : ℕ) → from ≤ j → j < to → is_separator (slice_index text j) ≡ false

-- the lists that a scan has made up to the field that starts at this place: with the records of the rest, in the middle of
-- one, they give the records of the text
pub record IsSplit (text ends rows : List ℕ) (from : ℕ) : Type 0 where
  pub start : next_start 1 0 ends ≡ from
  pub apart : Apart 1 0 ends (length text)
  pub rising : Rising 0 rows (length ends)
  pub within : last_end 0 rows ≤ length ends
  pub law : stored_apart 1 text ends rows ++ plain_from (drop (last_end 0 rows) (cut_apart 1 0 ends text)) [] (drop from text) ≡ plain_records text

-- where a scan that has made these lists is: before the field that starts at this place, in the record whose first
-- field has this number
pub record IsAt (text ends rows : List ℕ) (from first : ℕ) : Type 0 where
  pub split : IsSplit text ends rows from
  pub begins : first ≡ last_end 0 rows
  pub high : from ≤ length text

-- the lists that a scan has made of a whole text
pub record IsWhole (text ends rows : List ℕ) : Type 0 where
  pub apart : Apart 1 0 ends (length text)
  pub rising : Rising 0 rows (length ends)
  pub law : stored_apart 1 text ends rows ≡ plain_records text

-- of the 64 bytes from a place on, those that end fields, from the start of the field at hand on, are the bits of the mask,
-- and before these bytes that field does not end
pub record Marked (text : List ℕ) (at from mask : ℕ) : Type 0 where
  pub each : (k : ℕ) → k < 64 → from ≤ at + k → is_separator (slice_index text (at + k)) ≡ true → bit_at mask k ≡ 1
  pub only : (k : ℕ) → bit_at mask k ≡ 1 → (k < 64) × (from ≤ at + k) × (is_separator (slice_index text (at + k)) ≡ true)
  pub before : NoSeparator text from at
  pub low : from ≤ at + 64
