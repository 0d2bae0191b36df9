-- What a closed table shows.
use Rattle.std.specs.Prelude.{◌≡◌, ℕ, ◌<◌, ◌≤◌, List, [], length}
use mathlib.Core.Option.{some}
use lib.ListN.{get_elem?}
use Rattle.agg_cell.specs.Cell.{stepped}
use Rattle.lock_book.specs.History.{IsLegal, StartsWith, calls_by}
use Rattle.lock_book.specs.Shown.{mine_of, seen_of}
use Rattle.dshash_parts.specs.Legal.{PartitionLegal}
use Rattle.dshash_parts.specs.States.{fresh}
use Rattle.agg_table.specs.Calls.{AggEntry}
use Rattle.agg_table.specs.Shown.{IsSeat, callers_of, number_at}
use Rattle.agg_table.specs.declared.part.HashPart.{HashPart}
use Rattle.agg_table.specs.declared.part.HashSeat.{HashSeat}

-- the passes of all participants, in order of their numbers
pub record AreSeats (p : HashPart) (seats : List HashSeat) : Type 0 where
  pub count : length seats ≡ callers_of p
  pub each : (k : ℕ) (s : HashSeat) → get_elem? seats k ≡ some s → IsSeat p s
  pub numbers : (k : ℕ) (s : HashSeat) → get_elem? seats k ≡ some s → number_at s ≡ k

-- The table with these passes was closed, with this history of each partition. It is legal and begins with what each
-- participant had seen; the entries of a participant are its own turns, and there are no others
pub record IsClosed (p : HashPart) (seats : List HashSeat) (history : ℕ → List AggEntry) : Type 0 where
  pub lawful : (i : ℕ) → i < 128 → IsLegal (λ _. PartitionLegal stepped i) fresh (history i)
  pub begins : (n i : ℕ) (s : HashSeat) → get_elem? seats n ≡ some s → StartsWith (history i) (seen_of s.table i)
  pub mine : (n i : ℕ) (s : HashSeat) → get_elem? seats n ≡ some s → calls_by n (history i) ≡ mine_of s.table i
  pub no_others : (i n : ℕ) → callers_of p ≤ n → calls_by n (history i) ≡ []
