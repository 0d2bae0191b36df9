-- A worked value: two small tables with one column each, and what each kind of join of them is.
use Rattle.std.specs.Prelude.{◌≡◌, ◌∷◌, ℕ, []}
use Rattle.row_blocks.specs.Blocks.{Table}
use Rattle.join_kinds.specs.declared.outer.JoinedRow.{JoinedRow}
use Rattle.join_kinds.specs.declared.outer.JoinedRow.TheVariants.{Both, LeftOnly, RightOnly}
use Rattle.join_kinds.specs.declared.partners.Side.TheVariants.{Left, Right}
use Rattle.join_kinds.specs.Kinds.{anti_join_of, full_join_of, left_outer_join_of, right_outer_join_of, semi_join_of}

-- the rows 1, 2, an empty field, and 1, after a header
abbrev pub lefts : Table
lefts = ((107 ∷ []) ∷ []) ∷ ((49 ∷ []) ∷ []) ∷ ((50 ∷ []) ∷ []) ∷ ([] ∷ []) ∷ ((49 ∷ []) ∷ []) ∷ []

-- the rows 3, 1 and an empty field, after a header
abbrev pub rights : Table
rights = ((107 ∷ []) ∷ []) ∷ ((51 ∷ []) ∷ []) ∷ ((49 ∷ []) ∷ []) ∷ ([] ∷ []) ∷ []

-- a left and a right row
abbrev pub both : ℕ → ℕ → JoinedRow
both l r = Both (record { left = l; right = r })

-- what each kind of join is
pub record WorkedJoins : Type 0 where
  pub semi : semi_join_of lefts rights 0 0 Left ≡ 1 ∷ 4 ∷ []
  pub anti : anti_join_of lefts rights 0 0 Left ≡ 2 ∷ 3 ∷ []
  pub semi_right : semi_join_of lefts rights 0 0 Right ≡ 2 ∷ []
  pub anti_right : anti_join_of lefts rights 0 0 Right ≡ 1 ∷ 3 ∷ []
  pub left_outer : left_outer_join_of lefts rights 0 0 ≡ both 1 2 ∷ LeftOnly 2 ∷ LeftOnly 3 ∷ both 4 2 ∷ []
  pub right_outer : right_outer_join_of lefts rights 0 0 ≡ both 1 2 ∷ both 4 2 ∷ RightOnly 1 ∷ RightOnly 3 ∷ []
  pub full : full_join_of lefts rights 0 0 ≡ both 1 2 ∷ LeftOnly 2 ∷ LeftOnly 3 ∷ both 4 2 ∷ RightOnly 1 ∷ RightOnly 3 ∷ []
