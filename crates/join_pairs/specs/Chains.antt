-- Rows of one key as a chain, and the cell that makes it.
use Rattle.std.specs.Prelude.{◌≡◌, ◌≢◌, ℕ, List, [], ◌∷◌, Option, Some, None, filter, get_or}
use Rattle.std.specs.List.Sorted.{IsPermutation}
use Rattle.std.specs.Str.{bytes_eq}
use Rattle.csv_rows.specs.Records.{field_of}

-- the cell of a key: a call's row becomes the last one, and the reply is the row before, or 0 if there was none
abbrev pub last_step : Option ℕ → ℕ → Option ℕ × ℕ
last_step None row = (Some row, 0)
last_step (Some before) row = (Some row, before)

-- the number of a cell's row, and 0 if there is none
abbrev pub number_in : Option ℕ → ℕ
number_in None = 0
number_in (Some row) = row

-- from the row of a cell on, if it has one, calls with these rows got these replies and left this row in it
abbrev pub IsRun : Option ℕ → List (ℕ × ℕ) → Option ℕ → Type 0
IsRun first [] last = first ≡ last
IsRun first (e ∷ es) last = (e.1 ≡ (last_step first e.0).1) × IsRun (last_step first e.0).0 es last

-- the links from a row on lead through just these rows to the end, which is 0
abbrev pub IsChain : (ℕ → ℕ) → ℕ → List ℕ → Type 0
IsChain before row [] = row ≡ 0
IsChain before row (r ∷ rs) = (row ≡ r) × (row ≢ 0) × IsChain before (before row) rs

-- those of some rows whose field of the column has these bytes
abbrev pub rows_with : List (List (List ℕ)) → ℕ → List ℕ → List ℕ → List ℕ
rows_with records column key rows = filter (λ row. bytes_eq (field_of records row column) key) rows

-- the chain from a row on has those of some rows that have the key, each as often as there
pub record HasChain (before : ℕ → ℕ) (records : List (List (List ℕ))) (column : ℕ) (rows key : List ℕ) (last : ℕ) : Type 0 where
  pub chain : List ℕ
  pub is : IsChain before last chain
  pub same : IsPermutation (rows_with records column key rows) chain

-- the row before each row, as a list has it by the row's number
abbrev pub before_in : List ℕ → ℕ → ℕ
before_in befores row = get_or befores row 0
