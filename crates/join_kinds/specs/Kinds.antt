-- The kinds of join of two tables on a column of each, over two lists of records, in the order in which PostgreSQL's
-- executor gives them (nodeHashjoin.c; the names in brackets are those of its join types).
use Rattle.std.specs.Prelude.{◌++◌, ℕ, Bool, List, filter, map, not}
use Rattle.std.specs.List.{flat_map, list_any}
use Rattle.row_blocks.specs.Blocks.{Table, numbers_of}
use Rattle.join_pairs.specs.Join.{is_pair, pairs_of}
use Rattle.join_pairs.specs.declared.pairs.Pair.{Pair}
use Rattle.join_kinds.specs.declared.outer.JoinedRow.{JoinedRow}
use Rattle.join_kinds.specs.declared.outer.JoinedRow.TheVariants.{Both, RightOnly}
use Rattle.join_kinds.specs.declared.partners.Side.{Side}
use Rattle.join_kinds.specs.declared.partners.Side.TheVariants.{Left, Right}
use Rattle.join_kinds.specs.Outer.{with_pairs}

module _ (left right : Table) where
  -- the table of a side
  abbrev pub table_on : Side → Table
  table_on Left = left
  table_on Right = right

  module _ (left_column right_column : ℕ) where
    -- whether a row of a side makes a pair with some row of the other side
    abbrev pub has_partner : Side → ℕ → Bool
    has_partner Left l = list_any (λ r. is_pair left right left_column right_column l r) (numbers_of right)
    has_partner Right r = list_any (λ l. is_pair left right left_column right_column l r) (numbers_of left)

    -- the semi join of a side (JOIN_SEMI): its rows that have a partner, each once
    abbrev pub semi_join_of : Side → List ℕ
    semi_join_of side = filter (has_partner side) (numbers_of (table_on side))

    -- the anti join of a side (JOIN_ANTI): its rows that have no partner
    abbrev pub anti_join_of : Side → List ℕ
    anti_join_of side = filter (λ row. not (has_partner side row)) (numbers_of (table_on side))

    -- the pairs of a left row
    abbrev pub pairs_of_left : ℕ → List Pair
    pairs_of_left l = map (λ r. record { left = l; right = r }) (filter (is_pair left right left_column right_column l) (numbers_of right))

    -- the left outer join (JOIN_LEFT): each left row with its partners, or once if it has none
    abbrev pub left_outer_join_of : List JoinedRow
    left_outer_join_of = flat_map (λ l. with_pairs l (pairs_of_left l)) (numbers_of left)

    -- the right rows that have no partner
    abbrev pub right_alone : List JoinedRow
    right_alone = map RightOnly (anti_join_of Right)

    -- the right outer join (JOIN_RIGHT): the pairs, and then the right rows that have no partner
    abbrev pub right_outer_join_of : List JoinedRow
    right_outer_join_of = map Both (pairs_of left right left_column right_column) ++ right_alone

    -- the full join (JOIN_FULL): the left outer join, and then the right rows that have no partner
    abbrev pub full_join_of : List JoinedRow
    full_join_of = left_outer_join_of ++ right_alone
