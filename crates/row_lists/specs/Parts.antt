-- Keys that are shared out to parts by their hashes, and the rows of each part.
use Rattle.std.specs.Prelude.{◌≡◌, ◌<◌, ◌/◌, ◌%◌, ◌^◌, ◌==◌, ◌++◌, ◌∷◌, [], ℕ, List, filter, fold, get_or, length, set}
use Rattle.key_index.specs.Index.{hash}
use Rattle.row_lists.specs.Carried.{Carried}
use Rattle.std.specs.Prelude.{◌%◌}

-- the part of a key: the highest byte of its hash
abbrev pub part_of : List ℕ → ℕ
part_of key = hash key / 2 ^ 56 % 256

-- the rows of a part
abbrev pub rows_of_part : ℕ → List Carried → List Carried
rows_of_part part rows = filter (λ row. part_of row.key == part) rows

-- lists by parts after one more row, and after some rows in order
abbrev pub with_row : List (List Carried) → Carried → List (List Carried)
with_row lists row = set lists (part_of row.key) (get_or lists (part_of row.key) [] ++ row ∷ [])

abbrev pub with_rows : List (List Carried) → List Carried → List (List Carried)
with_rows lists rows = fold with_row lists rows

-- there is a list for each part, and it has those of some rows that are of the part, in their order
pub record ArePartLists (rows : List Carried) (lists : List (List Carried)) : Type 0 where
  pub many : length lists ≡ 256
  pub each : (part : ℕ) → part < 256 → get_or lists part [] ≡ rows_of_part part rows
