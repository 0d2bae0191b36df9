-- The groups of all rows, in one map or in several of which no two have a key.
use Rattle.std.specs.Prelude.{List, [], ◌∷◌}
use Rattle.std.specs.FinMap as finite
use Rattle.std.specs.List.Sorted.{IsPermutation}
use Rattle.gather_law.specs.KeyParts.{with_listed}
use Rattle.partial_agg.specs.Groups.{GroupsByKey}
use Rattle.partial_agg.specs.Listed.{listed}
use Rattle.state_runs.specs.Runs.{AreApart, groups_in}

-- one map with the groups of all maps
abbrev pub whole_of : List GroupsByKey → GroupsByKey
whole_of [] = finite.empty
whole_of (m ∷ []) = m
whole_of (m ∷ n ∷ maps) = with_listed finite.empty (groups_in (m ∷ n ∷ maps))

-- no two maps have a key, so it has each of these groups
pub record AreWhole (maps : List GroupsByKey) : Type 0 where
  pub apart : AreApart maps
  pub same : IsPermutation (listed (whole_of maps)) (groups_in maps)
