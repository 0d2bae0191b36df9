-- The lines of the program on standard error.
use Rattle.std.specs.Prelude.{[], ◌++◌, ◌∷◌, ℕ, List, codes}

-- a text as a line of the program, ended by a line feed
abbrev pub line : List ℕ → List ℕ
line text = codes "parstream: " ++ (text ++ 10 ∷ [])
