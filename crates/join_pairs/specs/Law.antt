-- The two laws of a join, as facts about plain lists: whatever rows the participants put in and in which order, the
-- links make a chain of each key; and the pairs of all right rows' chains, in any order, are the pairs of the tables.
use Rattle.std.specs.Prelude.{◌≡◌, ◌≢◌, ℕ, List, [], ◌∷◌, All, Option, None}
use Rattle.std.specs.List.{flat_map}
use Rattle.std.specs.List.Sorted.{IsPermutation, IsSorted}
use Rattle.std.specs.Ordering.{nat_cmp, ordering_then}
use Rattle.std.specs.declared.cmp.Ordering.{Ordering}
use Rattle.row_blocks.specs.Blocks.{Table, numbers_of}
use Rattle.join_pairs.specs.Chains.{IsChain, IsRun, number_in}
use Rattle.join_pairs.specs.Join.{pairs_of}
use Rattle.join_pairs.specs.Found.{found_of}
use Rattle.join_pairs.specs.declared.pairs.Pair.{Pair}

-- the rows of some calls with their replies, the last one first
abbrev pub latest_first : List (ℕ × ℕ) → List ℕ → List ℕ
latest_first [] rows = rows
latest_first (e ∷ es) rows = latest_first es (e.0 ∷ rows)

-- If the calls of a cell got these replies, and the row before each row is what its call got as reply, the links from
-- the cell's last row on lead through the rows of all calls
abbrev pub CellsAreChains : Type 0
CellsAreChains = (before : ℕ → ℕ) (calls : List (ℕ × ℕ)) (last : Option ℕ) → IsRun None calls last → All (λ (e : ℕ × ℕ). (e.0 ≢ 0) × (before e.0 ≡ e.1)) calls
    → IsChain before (number_in last) (latest_first calls [])

-- how two pairs compare: by the left row, and then by the right one
abbrev pub pair_cmp : Pair → Pair → Ordering
pair_cmp p q = ordering_then (nat_cmp p.left q.left) (nat_cmp p.right q.right)

-- pairs in order that are those of all right rows, in whichever order these came, are the pairs of the two tables
abbrev pub PairsAreJoin : Type 0
PairsAreJoin = (left right : Table) (left_column right_column : ℕ) (rows : List ℕ) (pairs : List Pair)
    → IsPermutation rows (numbers_of right) → IsPermutation (flat_map (found_of left right left_column right_column) rows) pairs → IsSorted pair_cmp pairs
    → pairs ≡ pairs_of left right left_column right_column
