-- The rows that have a pair among the pairs of two tables are those that have a partner.
use Rattle.std.proofs.Common.{◌≡◌, ◌+◌, ◌&&◌, ◌==◌, ℕ, Bool, List, filter, length, map, not, ap, sym, ◌∙◌}
use Rattle.std.specs.List.{list_any}
use Rattle.row_blocks.specs.Blocks.{Table, numbers_of}
use Rattle.join_pairs.specs.Join.{is_pair, pairs_of}
use Rattle.join_pairs.specs.declared.pairs.Pair.{Pair}
use Rattle.join_kinds.specs.declared.partners.Side.{Side}
use Rattle.join_kinds.specs.declared.partners.Side.TheVariants.{Left, Right}
use Rattle.join_kinds.specs.Kinds.{has_partner, pairs_of_left, right_alone, table_on}
use Rattle.join_kinds.specs.Outer.{lone_rows}
use Rattle.join_kinds.specs.declared.outer.JoinedRow.TheVariants.{RightOnly}
use Rattle.join_kinds.specs.Partners.{has_pair, numbers_to, row_on}
use Rattle.join_kinds.proofs.Anys.{all_in, any_both, any_congr, any_filter, any_flat, any_map, any_one, filter_same, is_in}
use Rattle.join_kinds.proofs.Numbers.{numbers_are}

module _ (left right : Table) (left_column right_column : ℕ) where
  abbrev whole : List Pair
  whole = pairs_of left right left_column right_column

  abbrev is : ℕ → ℕ → Bool
  is = is_pair left right left_column right_column

  abbrev own : ℕ → List Pair
  own = pairs_of_left left right left_column right_column

  abbrev pair : ℕ → ℕ → Pair
  pair l r = record { left = l; right = r }

  of_left : (row : ℕ) → has_pair Left whole row ≡ (is_in (numbers_of left) row && has_partner left right left_column right_column Left row)
  of_left row =
      any_flat (λ (p : Pair). row_on Left p == row) own (numbers_of left)
      ∙ any_congr (λ l. list_any (λ (p : Pair). row_on Left p == row) (own l)) (λ l. (l == row) && list_any (is l) (numbers_of right)) each (numbers_of left)
      ∙ any_one row (λ l. list_any (is l) (numbers_of right)) (numbers_of left)
    where
      each : (l : ℕ) → list_any (λ (p : Pair). row_on Left p == row) (own l) ≡ ((l == row) && list_any (is l) (numbers_of right))
      each l =
          any_map (λ (p : Pair). row_on Left p == row) (pair l) (filter (is l) (numbers_of right)) ∙ any_filter (λ r. l == row) (is l) (numbers_of right)
          ∙ any_both (l == row) (is l) (numbers_of right)

  of_right : (row : ℕ) → has_pair Right whole row ≡ (is_in (numbers_of right) row && has_partner left right left_column right_column Right row)
  of_right row =
      any_flat (λ (p : Pair). row_on Right p == row) own (numbers_of left)
      ∙ any_congr (λ l. list_any (λ (p : Pair). row_on Right p == row) (own l)) (λ l. is_in (numbers_of right) row && is l row) each (numbers_of left)
      ∙ any_both (is_in (numbers_of right) row) (λ l. is l row) (numbers_of left)
    where
      each : (l : ℕ) → list_any (λ (p : Pair). row_on Right p == row) (own l) ≡ (is_in (numbers_of right) row && is l row)
      each l =
          any_map (λ (p : Pair). row_on Right p == row) (pair l) (filter (is l) (numbers_of right)) ∙ any_filter (λ r. r == row) (is l) (numbers_of right)
          ∙ any_one row (is l) (numbers_of right)

  of_side : (side : Side) (row : ℕ) → has_pair side whole row ≡ (is_in (numbers_of (table_on left right side)) row && has_partner left right left_column right_column side row)
  of_side Left = of_left
  of_side Right = of_right

  -- the rows of a side that a test of having a pair keeps
  pub kept_rows : (g : Bool → Bool) (side : Side) (pairs : List Pair) (rows : ℕ) → pairs ≡ whole → rows + 1 ≡ length (table_on left right side)
      → filter (λ row. g (has_pair side pairs row)) (numbers_to rows) ≡ filter (λ row. g (has_partner left right left_column right_column side row)) (numbers_of (table_on left right side))
  kept_rows g side pairs rows e n =
      let numbers = numbers_of (table_on left right side) in
      ap (λ (ps : List Pair). filter (λ row. g (has_pair side ps row)) (numbers_to rows)) e ∙ ap (filter (λ row. g (has_pair side whole row))) (sym (numbers_are (table_on left right side) rows n))
      ∙ filter_same g (has_pair side whole) (has_partner left right left_column right_column side) (is_in numbers) (of_side side) numbers (all_in numbers)

  -- the right rows that have no pair are those that have no partner
  pub lone_are : (pairs : List Pair) (rows : ℕ) → pairs ≡ whole → rows + 1 ≡ length right → lone_rows pairs rows ≡ right_alone left right left_column right_column
  lone_are pairs rows e n = ap (map RightOnly) (kept_rows not Right pairs rows e n)
