use Rattle.std.proofs.Common.{◌≡◌, ◌++◌, ℕ, List, take}
use Rattle.row_blocks.specs.Blocks.{block_numbers}
use Rattle.hash_join.specs.Stores.{DidPut, Holds, IsSame}
use Rattle.hash_join.proofs.filling.put_block.Given as goal

abbrev pub invariant-loop-at : goal.invariant-loop-at
invariant-loop-at g l =
    Holds l.store l.filler × IsSame l.initial.filler l.filler × (l.filler.claim ≡ l.initial.filler.claim)
    × ((list : List ℕ) → DidPut l.rows l.column list l.initial.filler → DidPut l.rows l.column (list ++ take l.at (block_numbers l.rows l.block)) l.filler)
