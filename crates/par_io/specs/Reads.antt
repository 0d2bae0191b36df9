-- What was read of a source, whether or not it was all of it.
use Rattle.std.specs.Prelude.{◌≡◌, ℕ, List, length, Option}
use Rattle.std.specs.Io.KnownBytes.{Consumes}

-- this many bytes were read, and they were the first of what was left
abbrev pub ReadsCount : Option (List ℕ) → Option (List ℕ) → ℕ → Type 0
ReadsCount old new count = (bytes : List ℕ) × Consumes old new bytes × (length bytes ≡ count)
