use Rattle.std.proofs.Common.{◌≤◌, ◌++◌, ℕ, length, take}
use Rattle.std.specs.List.Sorted.{IsPermutation}
use Rattle.row_blocks.specs.Blocks.{Table, block_numbers}
use Rattle.join_pairs.specs.Join.{most_pairs}
use Rattle.join_pairs.specs.Found.{found_in}
use Rattle.join_pairs.specs.Gathered.{ChainsAll}
use Rattle.join_pairs.proofs.pairing.find_block.Given as goal

abbrev pub invariant-loop-at : goal.invariant-loop-at
invariant-loop-at g l =
    (length l.pairs.items ≤ most_pairs)
    × ((left : Table) (c : ℕ) → ChainsAll left c (g.L.Lasts.last_of l.table) l.chains → IsPermutation (l.initial.pairs.items ++ found_in left l.rows c l.column (take l.at (block_numbers l.rows l.block))) l.pairs.items)
