-- Sizes of columns that are made wide enough for a row.
use Rattle.std.specs.Prelude.{◌≡◌, ◌<◌, ℕ, List, [], get_or, length, max}
use Rattle.table_form.specs.Aligned.{characters, column_size, shown}

-- each size is at least that of the row's field, and otherwise as before
pub record AreWidened (old new : List ℕ) (row : List (List ℕ)) : Type 0 where
  pub count : length new ≡ length old
  pub each : (at : ℕ) → at < length old → get_or new at 0 ≡ max (get_or old at 0) (characters (shown (get_or row at [])))

-- each size is at least that of the column's fields in all rows, and otherwise as before
pub record AreWide (old new : List ℕ) (rows : List (List (List ℕ))) : Type 0 where
  pub count : length new ≡ length old
  pub each : (at : ℕ) → at < length old → get_or new at 0 ≡ max (get_or old at 0) (column_size at rows)
