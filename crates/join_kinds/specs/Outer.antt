-- The rows of an outer join's result, over a list of pairs.
use Rattle.std.specs.Prelude.{◌==◌, ℕ, Bool, List, [], ◌∷◌, map}
use Rattle.join_pairs.specs.declared.pairs.Pair.{Pair}
use Rattle.join_kinds.specs.declared.outer.JoinedRow.{JoinedRow}
use Rattle.join_kinds.specs.declared.outer.JoinedRow.TheVariants.{Both, LeftOnly, RightOnly}
use Rattle.join_kinds.specs.declared.partners.Side.TheVariants.{Right}
use Rattle.join_kinds.specs.Partners.{anti_rows}

-- whether a pair is of a left row
abbrev pub has_left : ℕ → Pair → Bool
has_left row p = p.left == row

-- a left row with its pairs, or once if it has none
abbrev pub with_pairs : ℕ → List Pair → List JoinedRow
with_pairs row [] = LeftOnly row ∷ []
with_pairs row (p ∷ ps) = map Both (p ∷ ps)

-- the right rows that have no pair, each once
abbrev pub lone_rows : List Pair → ℕ → List JoinedRow
lone_rows pairs rows = map RightOnly (anti_rows Right pairs rows)
