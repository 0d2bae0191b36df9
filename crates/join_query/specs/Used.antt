-- How the joined records were made.
use Rattle.std.specs.Prelude.{◌≡◌, ◌≤◌, ℕ, List, Option, None, Some, length}
use Rattle.csv_rows.specs.Records.{record_at}
use Rattle.row_blocks.specs.Blocks.{Table}
use Rattle.hash_join.specs.Used.{IsUsed}
use Rattle.hash_join.specs.declared.Joined.{Joined}
use Rattle.join_pairs.specs.Join.{AllAccepted, most_pairs, pairs_of}
use Rattle.par_model.specs.Named.{column_of}
use Rattle.join_query.specs.Outcome.{IsCut, left_of, right_of}
use Rattle.join_query.specs.Words.{Asked}

-- Two tables were joined on these columns of them by this many workers, in this way: no row is refused, the pairs are
-- all of them and not too many, and the left rows were shared out among the participants and went into the shared table
pub record IsJoinOn (left right : Table) (l r workers : ℕ) (j : Joined) : Type 0 where
  pub left_rows : AllAccepted left l
  pub right_rows : AllAccepted right r
  pub pairs : j.pairs ≡ pairs_of left right l r
  pub few : length j.pairs ≤ most_pairs
  pub used : IsUsed left l workers j

-- the two tables of bytes were joined so, on the columns that have the name
pub record IsJoinFor (asked : Asked) (bytes : List ℕ) (j : Joined) : Type 0 where
  pub place : ℕ
  pub cut : IsCut bytes (Some place)
  pub l : ℕ
  pub r : ℕ
  pub left_column : column_of (record_at (left_of bytes place) 0) asked.column ≡ Some l
  pub right_column : column_of (record_at (right_of bytes place) 0) asked.column ≡ Some r
  pub on : IsJoinOn (left_of bytes place) (right_of bytes place) l r asked.workers j

-- words ask for a join, and the tables of the bytes were joined so
abbrev pub IsJoinBy : Option Asked → List ℕ → Joined → Type 0
IsJoinBy None bytes j = ⊥
IsJoinBy (Some asked) bytes j = IsJoinFor asked bytes j
