-- Taking entries out of a partition, whichever comes next.
use Rattle.std.specs.Prelude.{◌≡◌, ℕ, true, false, List, [], ◌∷◌, ◌++◌, Option, Some}
use Rattle.std.specs.FinMap as fin
use Rattle.lock_book.specs.declared.view.Entry.{Entry}
use Rattle.lock_book.specs.History.{entry, last_of}
use Rattle.dshash_parts.specs.States.{PartitionState, fresh}
use Rattle.dshash_parts.specs.declared.histories.PartitionCalls.{PartitionCalls}
use Rattle.dshash_parts.specs.declared.histories.PartitionCalls.TheVariants.{Call}
use Rattle.dshash_parts.specs.declared.histories.PartitionReplies.{PartitionReplies}
use Rattle.dshash_parts.specs.declared.histories.PartitionReplies.TheVariants.{Made}

-- The history of a partition ends with this call by the caller n: it was made of a key that had a state, which decided
-- the reply, and took it out
pub record IsTakenOut {S C R : Type 0} (step : Option S → C → Option S × R) (n : ℕ) (call : C) (key : List ℕ) (reply : R) (seen : List (Entry (PartitionState S) (PartitionCalls C) (PartitionReplies S R))) : Type 0 where
  pub before : List (Entry (PartitionState S) (PartitionCalls C) (PartitionReplies S R))
  pub after : PartitionState S
  pub state : S
  pub ends : seen ≡ before ++ entry n (Call key call false) (Made reply false true) after ∷ []
  pub stood : fin.get (last_of fresh before).cells key ≡ Some state
  pub replied : reply ≡ (step (Some state) call).1
  pub gone : after.cells ≡ fin.remove (last_of fresh before).cells key
