-- The lines of the program, and its statuses.
use Rattle.std.specs.Prelude.{◌⊎◌, ◌++◌, ◌∷◌, [], ℕ, List, Option, codes, take}
use Rattle.std.specs.Io.KnownBytes.{Appends}
use Rattle.par_io.specs.Faults.{Rose}
use Rattle.answer_text.specs.declared.status.TheConstants.{MISUSED, NO_MEMORY, READ_FAULT, REFUSED, TABLE, TOO_LARGE, WRITE_FAULT}

-- every status there is
abbrev pub statuses : List ℕ
statuses = TABLE ∷ REFUSED ∷ MISUSED ∷ READ_FAULT ∷ WRITE_FAULT ∷ NO_MEMORY ∷ TOO_LARGE ∷ []

-- a text as a line of the program, ended by a line feed
abbrev pub line : List ℕ → List ℕ
line text = codes "pargather: " ++ (text ++ 10 ∷ [])

-- a sink was given a line, or a prefix of it if its faults rose
abbrev pub IsSaid : Option (List ℕ) → Option (List ℕ) → ℕ → ℕ → List ℕ → Type 0
IsSaid old new before now said = Appends old new said ⊎ (Rose before now × (n : ℕ) × Appends old new (take n said))
