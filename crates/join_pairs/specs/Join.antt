-- The join of two tables on a column of each, over two lists of records: which rows are refused, which rows make a
-- pair, the list of pairs, and the records of the result.
use Rattle.std.specs.Prelude.{◌≡◌, ◌≢◌, ◌<◌, ◌≤◌, ◌⊎◌, ◌&&◌, ◌++◌, ◌∷◌, ℕ, Bool, true, false, List, filter, length, map, not}
use Rattle.std.specs.List.{flat_map}
use Rattle.std.specs.Str.{bytes_eq}
use Rattle.csv_rows.specs.Records.{field_of, record_at}
use Rattle.row_blocks.specs.Blocks.{Table, numbers_of}
use Rattle.par_model.specs.Record.{is_null}
use Rattle.par_model.specs.Refuse.{key_cause, longest_key, width_cause}
use Rattle.join_pairs.specs.declared.pairs.Pair.{Pair}

-- how many fields the header has
abbrev pub width_of : Table → ℕ
width_of records = length (record_at records 0)

-- a number is that of a row
abbrev pub IsRow : Table → ℕ → Type 0
IsRow records row = (1 ≤ row) × (row < length records)

-- those of some rows whose field of the column is not empty
abbrev pub keyed : Table → ℕ → List ℕ → List ℕ
keyed records column rows = filter (λ row. not (is_null (field_of records row column))) rows

-- ---- refused rows

-- a row that can be joined: it has as many fields as the header, and in the column no more bytes than a key may have
pub record IsAccepted (records : Table) (column row : ℕ) : Type 0 where
  pub width : length (record_at records row) ≡ width_of records
  pub short : length (field_of records row column) ≤ longest_key

-- all rows of a table can be joined
abbrev pub AllAccepted : Table → ℕ → Type 0
AllAccepted records column = (row : ℕ) → IsRow records row → IsAccepted records column row

-- a row is refused for another number of fields than the header's; else for a field of the column that is longer than a
-- key may be
abbrev pub IsRefused : Table → ℕ → ℕ → ℕ → Type 0
IsRefused records column row cause =
    ((cause ≡ width_cause) × (length (record_at records row) ≢ width_of records))
    ⊎ ((cause ≡ key_cause) × (length (record_at records row) ≡ width_of records) × (longest_key < length (field_of records row column)))

-- the first row of a table that is refused
pub record IsFirstRefused (records : Table) (column row cause : ℕ) : Type 0 where
  pub is_row : IsRow records row
  pub refused : IsRefused records column row cause
  pub before : (other : ℕ) → 1 ≤ other → other < row → IsAccepted records column other

-- ---- pairs

module _ (left right : Table) (left_column right_column : ℕ) where
  -- the refused row that is named: the first of the left table, or if that has none the first of the right one
  abbrev pub IsNamed : Bool → ℕ → ℕ → Type 0
  IsNamed false row cause = IsFirstRefused left left_column row cause
  IsNamed true row cause = AllAccepted left left_column × IsFirstRefused right right_column row cause

  -- a left and a right row whose fields of the column have the same bytes and are not empty
  abbrev pub is_pair : ℕ → ℕ → Bool
  is_pair l r = not (is_null (field_of right r right_column)) && bytes_eq (field_of left l left_column) (field_of right r right_column)

  -- the pairs, in order of the left row, then the right row
  abbrev pub pairs_of : List Pair
  pairs_of = flat_map (λ l. map (λ r. record { left = l; right = r }) (filter (is_pair l) (numbers_of right))) (numbers_of left)

-- the most pairs that a join gives
abbrev pub most_pairs : ℕ
most_pairs = 1048576

-- the records of the result: the header's left fields, then its right fields, and one such record for each pair
abbrev pub joined_records : Table → Table → List Pair → Table
joined_records left right pairs = (record_at left 0 ++ record_at right 0) ∷ map (λ (p : Pair). record_at left p.left ++ record_at right p.right) pairs
