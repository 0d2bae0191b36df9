-- How many digits the values of a column have after the point.
use Rattle.std.specs.Prelude.{◌==◌, ℕ, List, [], ◌∷◌, get_or, if◌then◌else◌, length}
use Rattle.csv.specs.Writing.{default_writer, escaped}
use Rattle.table_order.specs.Numbers.{places_of}

-- how many bytes the first field of the column that is not empty has after its point, as the text has it, with each quote
-- twice; none if there is no such field
unfoldable pub column_places : ℕ → List (List (List ℕ)) → ℕ
column_places column [] = 0
column_places column (row ∷ rows) = if length (get_or row column []) == 0 then column_places column rows else places_of (escaped default_writer (get_or row column []))
