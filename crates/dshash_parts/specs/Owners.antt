-- Keys that belong to a caller: any other caller that calls them only reads.
use Rattle.std.specs.Prelude.{◌≡◌, ◌≢◌, ℕ, List, Option, None}
use Rattle.std.specs.FinMap as fin
use Rattle.lock_book.specs.declared.view.Entry.{Entry}
use Rattle.lock_book.specs.History.{calls_by, last_of, IsLegal}
use Rattle.lock_book.specs.Told.{Histories}
use Rattle.dshash_core.specs.Key.{hash_of}
use Rattle.dshash_core.specs.Cells.{partition_of}
use Rattle.dshash_parts.specs.States.{PartitionState, fresh}
use Rattle.dshash_parts.specs.Legal.{AreAllowed, PartitionLegal}
use Rattle.dshash_parts.specs.Tables.{map_at}
use Rattle.dshash_parts.specs.Replays.{calls_of_key, IsRun}
use Rattle.dshash_parts.specs.declared.histories.PartitionCalls.{PartitionCalls}
use Rattle.dshash_parts.specs.declared.histories.PartitionReplies.{PartitionReplies}

module _ {S C R : Type 0} (step : Option S → C → Option S × R) where
  -- the key belongs to the caller n: a call of it that any other may make leaves whatever is there
  abbrev pub IsOwner : (ℕ → List ℕ → C → Type 0) → ℕ → List ℕ → Type 0
  IsOwner may n key = (other : ℕ) (call : C) → other ≢ n → may other key call → (s : Option S) → (step s call).0 ≡ s

  -- A pass's own calls of a key are those of one cell, which was absent first and has the map's state last: nobody else
  -- changed it
  abbrev pub IsOwnCell : Histories (PartitionState S) (PartitionCalls C) (PartitionReplies S R) → Histories (PartitionState S) (PartitionCalls C) (PartitionReplies S R) → List ℕ → Type 0
  IsOwnCell seen mine key =
      let number = partition_of (hash_of key) in
      IsRun step None (calls_of_key key (mine number)) (fin.get (map_at seen number) key)

-- In each legal history of a partition of which every turn is allowed, the calls that a key's owner made are those of
-- one cell, whatever others read in between
abbrev pub OwnersHaveCells : {S C R : Type 0} → (Option S → C → Option S × R) → (ℕ → List ℕ → C → Type 0) → Type 0
OwnersHaveCells {S} {C} {R} step may = (number n : ℕ) (key : List ℕ) (es : List (Entry (PartitionState S) (PartitionCalls C) (PartitionReplies S R)))
    → IsLegal (λ _. PartitionLegal step number) fresh es → AreAllowed may es → IsOwner step may n key → IsRun step None (calls_of_key key (calls_by n es)) (fin.get (last_of fresh es).cells key)
