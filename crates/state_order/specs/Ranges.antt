-- Ranges of keys, and the groups of a map that lie in one.
use Rattle.std.specs.Prelude.{◌≡◌, ◌&&◌, ◌||◌, ◌∷◌, [], ℕ, Bool, true, false, List, None, if◌then◌else◌, not}
use Rattle.std.specs.FinMap as map
use Rattle.std.specs.Ordering.{is_lt}
use Rattle.par_model.specs.Table.{columns_cmp}
use Rattle.partial_agg.specs.Groups.{GroupsByKey}
use Rattle.result_text.specs.KeyColumns.{columns_in}
use Rattle.state_head.specs.Words.{Keys}

-- whether the line of a key comes before that of another, by this many columns
abbrev pub is_before : ℕ → List ℕ → List ℕ → Bool
is_before columns a b = is_lt (columns_cmp (columns_in columns a) (columns_in columns b))

-- whether a range has no such end
abbrev pub is_open : List ℕ → Bool
is_open [] = true
is_open (byte ∷ key) = false

-- whether a key lies in a range: from its low end on, and before its high end
abbrev pub is_from : ℕ → List ℕ → List ℕ → Bool
is_from columns low key = is_open low || not (is_before columns key low)

abbrev pub is_below : ℕ → List ℕ → List ℕ → Bool
is_below columns high key = is_open high || is_before columns key high

abbrev pub is_within : ℕ → Keys → List ℕ → Bool
is_within columns range key = is_from columns range.low key && is_below columns range.high key

-- a map has the groups of another whose keys lie in a range, and no others
pub record AreWithin (columns : ℕ) (range : Keys) (m within : GroupsByKey) : Type 0 where
  pub each : (key : List ℕ) → map.get within key ≡ (if is_within columns range key then map.get m key else None)
