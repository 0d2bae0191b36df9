-- Two tables that are ready to be joined.
use Rattle.std.specs.Prelude.{◌≡◌, ◌<◌, ◌≤◌, ◌+◌, ℕ, List, Some, length}
use Rattle.csv_rows.specs.Records.{record_at, records_of}
use Rattle.join_pairs.specs.Join.{width_of}
use Rattle.par_model.specs.Named.{column_of}
use Rattle.par_model.specs.Outcome.{most_bytes, most_rows}
use Rattle.row_blocks.specs.Blocks.{Table}
use Rattle.join_query.specs.Outcome.{IsCut, left_of, right_of}
use Rattle.join_query.specs.declared.ready.Ready.{Ready}
use Rattle.join_query.specs.declared.tables.Tables.{Tables}

-- a table has a header, and not too many rows
pub record IsTable (records : Table) : Type 0 where
  pub some : 0 < length records
  pub few : length records ≤ most_rows + 1

-- the tables of these bytes
pub record AreTables (left right : List ℕ) (t : Tables) : Type 0 where
  pub left_is : t.left ≡ records_of left
  pub right_is : t.right ≡ records_of right
  pub left_table : IsTable t.left
  pub right_table : IsTable t.right

-- the columns of a name in the headers of two tables
pub record AreColumns (left right : Table) (name : List ℕ) (l r : ℕ) : Type 0 where
  pub left_is : column_of (record_at left 0) name ≡ Some l
  pub right_is : column_of (record_at right 0) name ≡ Some r
  pub left_below : l < width_of left
  pub right_below : r < width_of right

-- the tables are those of bytes within the limit, which are cut at a place, and the columns are those of the name
pub record IsReady (name bytes : List ℕ) (r : Ready) : Type 0 where
  pub within : length bytes ≤ most_bytes
  pub place : ℕ
  pub cut : IsCut bytes (Some place)
  pub left_is : r.left ≡ left_of bytes place
  pub right_is : r.right ≡ right_of bytes place
  pub left_table : IsTable r.left
  pub right_table : IsTable r.right
  pub columns : AreColumns r.left r.right name r.left_column r.right_column
