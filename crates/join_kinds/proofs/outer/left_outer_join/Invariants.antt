use Rattle.std.proofs.Common.{◌≡◌, ◌≤◌, ◌+◌, ℕ, length}
use Rattle.row_blocks.specs.Blocks.{Table}
use Rattle.join_pairs.specs.Join.{pairs_of}
use Rattle.join_kinds.proofs.Merged.{IsMerged}
use Rattle.join_kinds.proofs.outer.left_outer_join.Given as goal

abbrev pub invariant-loop-row : goal.invariant-loop-row
invariant-loop-row l =
    (l.row ≤ l.rows) × (l.at ≤ length l.pairs)
    × ((left right : Table) (left_column right_column : ℕ) → l.pairs ≡ pairs_of left right left_column right_column → l.rows + 1 ≡ length left
    → IsMerged left right left_column right_column l.pairs l.rows l.row l.at l.joined.items)
