-- Records whose first field calls for quotes.
use Rattle.std.specs.Prelude.{◌≡◌, ℕ, List, [], get_or, true}
use Rattle.csv.specs.Writing.{default_writer, needs_quotes}

-- the first field of a record calls for quotes
abbrev pub BeginsSpecial : List (List ℕ) → Type 0
BeginsSpecial row = needs_quotes default_writer (get_or row 0 []) ≡ true
