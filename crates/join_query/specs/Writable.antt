-- Records that can be written next to each other.
use Rattle.std.specs.Prelude.{◌<◌, ◌++◌, ℕ, All, List, length}
use Rattle.csv_rows.specs.Records.{record_at}
use Rattle.row_blocks.specs.Blocks.{Table}
use Rattle.join_pairs.specs.declared.pairs.Pair.{Pair}

-- a record is there, and has a field
pub record IsFull (records : Table) (row : ℕ) : Type 0 where
  pub there : row < length records
  pub some : 0 < length (record_at records row)

-- both tables have a header with a field
pub record HasHeaders (left right : Table) : Type 0 where
  pub of_left : IsFull left 0
  pub of_right : IsFull right 0

-- both rows of a pair are there, and have a field
pub record IsWritable (left right : Table) (pair : Pair) : Type 0 where
  pub of_left : IsFull left pair.left
  pub of_right : IsFull right pair.right

-- so it is for each pair
abbrev pub AreWritable : Table → Table → List Pair → Type 0
AreWritable left right pairs = All (IsWritable left right) pairs

-- the record of a pair
abbrev pub beside : Table → Table → Pair → List (List ℕ)
beside left right pair = record_at left pair.left ++ record_at right pair.right
