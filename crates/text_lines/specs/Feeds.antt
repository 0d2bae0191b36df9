-- How many line feeds there are.
use Rattle.std.specs.Prelude.{[], ◌∷◌, ◌==◌, ◌+◌, ℕ, List, if◌then◌else◌}

-- the line feeds among some bytes
unfoldable pub count_feeds : List ℕ → ℕ
count_feeds [] = 0
count_feeds (c ∷ bytes) = (if c == 10 then 1 else 0) + count_feeds bytes
