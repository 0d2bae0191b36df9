-- The fields of a line, each with a comma after it.
use Rattle.std.specs.Prelude.{◌++◌, ◌∷◌, [], ℕ, List}
use Rattle.csv.specs.Writing.{comma, default_writer, field_text}

-- the text of a field, and a comma
abbrev pub followed : List ℕ → List ℕ
followed field = field_text default_writer field ++ comma ∷ []
