-- The columns of an encoded key, read from its front.
use Rattle.std.specs.Prelude.{ℕ, zero, suc, List, [], ◌∷◌, drop, length, map, take}
use Rattle.std.specs.Int.{from_le_bytes, w32}

-- how long the first column is: its first four bytes say so, the lowest first
abbrev pub first_size : List ℕ → ℕ
first_size key = from_le_bytes w32 (take 4 key)

-- the first column
abbrev pub first_column : List ℕ → List ℕ
first_column key = take (first_size key) (drop 4 key)

-- what comes after the first column
abbrev pub after_first_column : List ℕ → List ℕ
after_first_column key = drop (first_size key) (drop 4 key)

-- this many columns; those that are missing, as the bytes end too early, are empty
abbrev pub columns_in : ℕ → List ℕ → List (List ℕ)
columns_in zero key = []
columns_in (suc count) key = first_column key ∷ columns_in count (after_first_column key)

-- the lengths of this many columns
abbrev pub lengths_in : ℕ → List ℕ → List ℕ
lengths_in count key = map length (columns_in count key)
