-- What is said of generated rows: how many there are, how many groups they have, and the sum of their values.
use Rattle.std.specs.Prelude.{◌≡◌, ◌++◌, ◌∷◌, [], ◌↔◌, ℕ, ℤ, List, Option, None, Some, Contains, bytes_eq, codes, decimal, length, map, take}
use Rattle.std.specs.Fmt.{signed_decimal}
use Rattle.std.specs.Io.KnownBytes.{Appends}
use Rattle.std.specs.List.{IsDistinct}
use Rattle.par_model.specs.Aggregate.{total}
use Rattle.gen_query.specs.Generator.{name_of, numbers, value_of}
use Rattle.gen_query.specs.Words.{Asked}

-- the names in a list, each once
pub record AreDifferent (all different : List (List ℕ)) : Type 0 where
  pub apart : IsDistinct bytes_eq different
  pub same : (name : List ℕ) → Contains different name ↔ Contains all name

-- the line of this many rows and groups, and of this sum
abbrev pub summary_text : ℕ → ℕ → ℤ → List ℕ
summary_text rows groups sum = codes "rows " ++ (decimal rows ++ (codes " groups " ++ (decimal groups ++ (codes " sum " ++ (signed_decimal sum ++ 10 ∷ [])))))

-- the line of the rows of some numbers: how many they are, how many different groups they have, and the sum of all values
pub record IsSummary (xs text : List ℕ) : Type 0 where
  pub groups : List (List ℕ)
  pub each : AreDifferent (map name_of xs) groups
  pub is : text ≡ summary_text (length xs) (length groups) (total (map value_of xs))

-- that of the rows that words ask for, if they do
abbrev pub IsSummaryBy : Option Asked → List ℕ → Type 0
IsSummaryBy None text = ⊥
IsSummaryBy (Some asked) text = IsSummary (numbers asked.seed asked.rows) text

-- a sink was given that line, and nothing else
abbrev pub IsAnswered : Option Asked → Option (List ℕ) → Option (List ℕ) → Type 0
IsAnswered asked old new = (text : List ℕ) × IsSummaryBy asked text × Appends old new text

-- or a prefix of it
abbrev pub IsBegun : Option Asked → Option (List ℕ) → Option (List ℕ) → Type 0
IsBegun asked old new = (text : List ℕ) × IsSummaryBy asked text × (n : ℕ) × Appends old new (take n text)
