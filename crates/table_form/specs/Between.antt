-- What comes between two pieces.
use Rattle.std.specs.Prelude.{◌==◌, ℕ, List, [], if◌then◌else◌}

-- what comes before the piece at a place: a separator, unless it is the first
abbrev pub lead : ℕ → List ℕ → List ℕ
lead at separator = if at == 0 then [] else separator
