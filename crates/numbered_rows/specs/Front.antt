-- The front of a source.
use Rattle.std.specs.Prelude.{◌≤◌, ◌⊎◌, ℕ, List, Option, length}
use Rattle.std.specs.Io.KnownBytes.{IsAtEnd}
use Rattle.numbered_rows.specs.declared.front.TheConstants.{FRONT}

-- these are FRONT bytes or more, or all that there were
abbrev pub IsFront : List ℕ → Option (List ℕ) → Type 0
IsFront front left = (FRONT ≤ length front) ⊎ IsAtEnd left
