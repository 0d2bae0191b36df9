-- The order of a table's rows: ORDER BY some columns, as bytes, and by the row's number if they are the same.
use Rattle.std.specs.Prelude.{◌∷◌, ℕ, List, map}
use Rattle.std.specs.List.Sorted.{IsPermutation, IsSorted}
use Rattle.std.specs.Ordering.{nat_cmp, ordering_then}
use Rattle.std.specs.declared.cmp.Ordering.{Ordering}
use Rattle.csv_rows.specs.Records.{record_at}
use Rattle.row_blocks.specs.Blocks.{Table, numbers_of}
use Rattle.par_model.specs.Key.{columns_of}
use Rattle.par_model.specs.Plan.{Plan}
use Rattle.par_model.specs.Table.{columns_cmp}

-- the fields of a row, by its number, in the columns to order by
abbrev pub columns_at : Plan → Table → ℕ → List (List ℕ)
columns_at plan records row = columns_of plan (record_at records row)

-- how two rows compare, by their numbers: their columns one after the other, each byte by byte, and then the numbers
unfoldable pub row_cmp : Plan → Table → ℕ → ℕ → Ordering
row_cmp plan records a b = ordering_then (columns_cmp (columns_at plan records a) (columns_at plan records b)) (nat_cmp a b)

-- a list has the number of each row once, in the order of the rows
pub record IsOrder (plan : Plan) (records : Table) (rows : List ℕ) : Type 0 where
  pub each : IsPermutation (numbers_of records) rows
  pub rising : IsSorted (row_cmp plan records) rows

-- the records of a table put in order: the header, and then the rows
abbrev pub ordered : Table → List ℕ → Table
ordered records rows = record_at records 0 ∷ map (record_at records) rows
