-- What a step makes of a chunk's words: the first one grows, and is the reply as it was.
use Rattle.std.specs.Prelude.{ℕ, ◌+◌, ◌%◌, ◌^◌, List, [], ◌∷◌}

abbrev pub grown : List ℕ → ℕ → List ℕ × ℕ
grown [] n = ([], 0)
grown (x ∷ xs) n = ((x + n) % 2 ^ 64 ∷ xs, x)
