-- Which rows of a side have a pair and which have none, over a list of pairs.
use Rattle.std.specs.Prelude.{◌≡◌, ◌+◌, ◌<◌, ◌==◌, ℕ, Bool, true, false, List, filter, length, not, slice_index_or}
use Rattle.std.specs.List.{list_any, range_with_len}
use Rattle.join_pairs.specs.declared.pairs.Pair.{Pair}
use Rattle.join_kinds.specs.declared.partners.Side.{Side}
use Rattle.join_kinds.specs.declared.partners.Side.TheVariants.{Left, Right}

-- the row of a pair that is on a side
abbrev pub row_on : Side → Pair → ℕ
row_on Left p = p.left
row_on Right p = p.right

-- whether a row of a side has a pair
abbrev pub has_pair : Side → List Pair → ℕ → Bool
has_pair side pairs row = list_any (λ p. row_on side p == row) pairs

-- the numbers of this many rows, which count from 1
abbrev pub numbers_to : ℕ → List ℕ
numbers_to rows = range_with_len 1 rows

-- the semi join: the rows of a side that have a pair
abbrev pub semi_rows : Side → List Pair → ℕ → List ℕ
semi_rows side pairs rows = filter (has_pair side pairs) (numbers_to rows)

-- the anti join: the rows of a side that have none
abbrev pub anti_rows : Side → List Pair → ℕ → List ℕ
anti_rows side pairs rows = filter (λ row. not (has_pair side pairs row)) (numbers_to rows)

-- the one or the other
abbrev pub rows_that : Bool → Side → List Pair → ℕ → List ℕ
rows_that true = semi_rows
rows_that false = anti_rows

-- a flag for each row, at its number less one: whether the row has a pair
pub record HasFlags (side : Side) (pairs : List Pair) (rows : ℕ) (flags : List Bool) : Type 0 where
  pub count : length flags ≡ rows
  pub each : (at : ℕ) → at < rows → slice_index_or flags at false ≡ has_pair side pairs (at + 1)
