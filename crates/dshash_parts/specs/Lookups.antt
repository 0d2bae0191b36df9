-- Calls that make no cell, and calls that neither make a cell nor remove one.
use Rattle.std.specs.Prelude.{◌≡◌, ℕ, Bool, ◌&&◌, List, [], ◌∷◌, ◌++◌, Option, None, is_some, is_none}
use Rattle.std.specs.FinMap as fin
use Rattle.lock_book.specs.declared.view.Entry.{Entry}
use Rattle.lock_book.specs.History.{last_of}
use Rattle.lock_book.specs.Told.{Histories}
use Rattle.dshash_core.specs.Key.{hash_of}
use Rattle.dshash_core.specs.Cells.{partition_of}
use Rattle.dshash_parts.specs.States.{PartitionState, fresh}
use Rattle.dshash_parts.specs.Tables.{map_at}
use Rattle.dshash_parts.specs.declared.histories.PartitionCalls.{PartitionCalls}
use Rattle.dshash_parts.specs.declared.histories.PartitionReplies.{PartitionReplies}

module _ {S C R : Type 0} (step : Option S → C → Option S × R) where
  -- the call leaves a state if there is one, and none if there is none
  abbrev pub KeepsCells : C → Type 0
  KeepsCells call = (s : Option S) → is_some (step s call).0 ≡ is_some s

  -- the call leaves no state if there is none
  abbrev pub MakesNoCell : C → Type 0
  MakesNoCell call = (step None call).0 ≡ None

  -- The call was made, with this reply, at the last turn that was seen of the key's partition: from the state that was
  -- under the key before it; what it leaves is there now
  pub record IsFound (seen : Histories (PartitionState S) (PartitionCalls C) (PartitionReplies S R)) (key : List ℕ) (call : C) (reply : R) : Type 0 where
    pub before : List (Entry (PartitionState S) (PartitionCalls C) (PartitionReplies S R))
    pub last : Entry (PartitionState S) (PartitionCalls C) (PartitionReplies S R)
    pub ends : seen (partition_of (hash_of key)) ≡ before ++ last ∷ []
    pub from : Option S
    pub was : from ≡ fin.get (last_of fresh before).cells key
    pub replied : reply ≡ (step from call).1
    pub stands : fin.get (map_at seen (partition_of (hash_of key))) key ≡ (step from call).0

  -- the same, and whether the call took the key out: there was a state, and the call leaves none
  pub record IsVisited (seen : Histories (PartitionState S) (PartitionCalls C) (PartitionReplies S R)) (key : List ℕ) (call : C) (reply : R) (removed : Bool) : Type 0 where
    pub found : IsFound seen key call reply
    pub took : removed ≡ (is_some found.from && is_none (step found.from call).0)
