-- What the answers say of the two tables.
use Rattle.std.specs.Prelude.{◌<◌, ℕ, length}
use Rattle.row_blocks.specs.Blocks.{Table}
use Rattle.join_pairs.specs.Join.{AllAccepted, IsNamed, most_pairs, pairs_of}
use Rattle.hash_join.specs.declared.JoinAnswer.{JoinAnswer}
use Rattle.hash_join.specs.declared.JoinAnswer.TheVariants.{Row, TooManyPairs, Memory}

-- an answer names the refused row, or no row is refused and there are too many pairs; a lack of memory says nothing
abbrev pub IsCause : Table → Table → ℕ → ℕ → JoinAnswer → Type 0
IsCause left right left_column right_column (Row of_right row cause) = IsNamed left right left_column right_column of_right row cause
IsCause left right left_column right_column TooManyPairs = AllAccepted left left_column × AllAccepted right right_column × (most_pairs < length (pairs_of left right left_column right_column))
IsCause left right left_column right_column Memory = Unit {0}
