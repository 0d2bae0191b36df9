-- What `join COLUMN N` over some bytes comes to: the first cause that there is no table, or the table.
use Rattle.std.specs.Prelude.{◌≡◌, ◌<◌, ◌≤◌, ◌+◌, ◌-◌, ◌⊎◌, ℕ, Bool, true, false, List, Option, None, Some, drop, if◌then◌else◌, length, nat_lt, slice_index, take}
use Rattle.csv_rows.specs.Records.{record_at, records_of}
use Rattle.row_blocks.specs.Blocks.{Table}
use Rattle.join_pairs.specs.Join.{AllAccepted, IsNamed, joined_records, most_pairs, pairs_of}
use Rattle.memchr.specs.Find.{IsFirst}
use Rattle.par_model.specs.Named.{column_of}
use Rattle.par_model.specs.Outcome.{most_bytes, most_rows}
use Rattle.join_query.specs.Words.{Asked}
use Rattle.join_query.specs.declared.cause.Cause.{Cause}
use Rattle.join_query.specs.declared.cause.Cause.TheVariants as cause

-- there is no table, for this cause, or there is one with these records
pub data Outcome : Type 0 where
  Fails : Cause → Outcome
  Joins : Table → Outcome

-- ---- two tables

module _ (left right : Table) where
  -- of rows that are accepted, joined on a column of each table
  abbrev pub by_pairs : ℕ → ℕ → Outcome
  by_pairs l r = if nat_lt most_pairs (length (pairs_of left right l r)) then Fails cause.TooManyPairs else Joins (joined_records left right (pairs_of left right l r))

  -- either this row is the refused one that is named, or none is refused
  abbrev pub IsOfRows : ℕ → ℕ → Outcome → Type 0
  IsOfRows l r o =
      ((of_right : Bool) × (row : ℕ) × (why : ℕ) × IsNamed left right l r of_right row why × (o ≡ Fails (cause.Refused of_right row why)))
      ⊎ (AllAccepted left l × AllAccepted right r × (o ≡ by_pairs l r))

  module _ (name : List ℕ) where
    -- of the columns that have the name in the left header and in the right one, if they do
    abbrev pub IsOfColumns : Option ℕ → Option ℕ → Outcome → Type 0
    IsOfColumns None other o = o ≡ Fails (cause.NoColumn false)
    IsOfColumns (Some l) None o = o ≡ Fails (cause.NoColumn true)
    IsOfColumns (Some l) (Some r) o = IsOfRows l r o

    -- either a table has too many rows besides its header, or neither has
    abbrev pub IsOfSizes : Outcome → Type 0
    IsOfSizes o =
        (((most_rows + 1 < length left) ⊎ (most_rows + 1 < length right)) × (o ≡ Fails cause.TooManyRows))
        ⊎ ((length left ≤ most_rows + 1) × (length right ≤ most_rows + 1) × IsOfColumns (column_of (record_at left 0) name) (column_of (record_at right 0) name) o)

    -- either the right table has no record, or it has a header
    abbrev pub IsOfRight : Outcome → Type 0
    IsOfRight o = ((length right ≡ 0) × (o ≡ Fails (cause.NoHeader true))) ⊎ ((0 < length right) × IsOfSizes o)

    -- either the left table has no record, or it has a header
    abbrev pub IsOfTables : Outcome → Type 0
    IsOfTables o = ((length left ≡ 0) × (o ≡ Fails (cause.NoHeader false))) ⊎ ((0 < length left) × IsOfRight o)

-- ---- the bytes that they are read from

-- a line that is the one byte `%`, ended by a line feed, begins at this place: at the start, or after a line feed
pub record IsSeparator (bytes : List ℕ) (place : ℕ) : Type 0 where
  pub begins : (place ≡ 0) ⊎ (slice_index bytes (place - 1) ≡ 10)
  pub mark : slice_index bytes place ≡ 37
  pub ends : slice_index bytes (place + 1) ≡ 10

-- this is the first place where such a line begins, if there is one
abbrev pub IsCut : List ℕ → Option ℕ → Type 0
IsCut bytes place = IsFirst (IsSeparator bytes) 0 (length bytes) place

-- the left table of bytes that are cut at a place is before the line, and the right one after it
abbrev pub left_of : List ℕ → ℕ → Table
left_of bytes place = records_of (take place bytes)

abbrev pub right_of : List ℕ → ℕ → Table
right_of bytes place = records_of (drop (place + 2) bytes)

-- of bytes that are cut at this place, if at any
abbrev pub IsOfCut : List ℕ → List ℕ → Option ℕ → Outcome → Type 0
IsOfCut name bytes None o = o ≡ Fails cause.NoSecondTable
IsOfCut name bytes (Some place) o = IsOfTables (left_of bytes place) (right_of bytes place) name o

-- of bytes within the limit
abbrev pub IsOfBytes : List ℕ → List ℕ → Outcome → Type 0
IsOfBytes name bytes o = (place : Option ℕ) × IsCut bytes place × IsOfCut name bytes place o

-- of what words ask for, or of words that are none, over these bytes
abbrev pub IsOutcome : Option Asked → List ℕ → Outcome → Type 0
IsOutcome None bytes o = o ≡ Fails cause.Usage
IsOutcome (Some asked) bytes o =
    ((most_bytes < length bytes) × (o ≡ Fails cause.TooManyBytes)) ⊎ ((length bytes ≤ most_bytes) × IsOfBytes asked.column bytes o)
