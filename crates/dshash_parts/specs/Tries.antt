-- What holds of the key's partition after a call that will not wait, by what became of it.
use Rattle.std.specs.Prelude.{◌≡◌, ℕ, ◌<◌, ◌≤◌, List, Option}
use Rattle.lock_book.specs.Told.{Histories}
use Rattle.dshash_core.specs.Key.{hash_of}
use Rattle.dshash_core.specs.Cells.{partition_of}
use Rattle.dshash_core.specs.declared.outcome.CoreOut.{CoreOut}
use Rattle.dshash_core.specs.declared.outcome.CoreOut.TheVariants.{Done, NeedItem, TooFull}
use Rattle.dshash_parts.specs.Lookups.{IsFound}
use Rattle.dshash_parts.specs.Promises.{IsLastCall}
use Rattle.dshash_parts.specs.States.{PartitionState}
use Rattle.dshash_parts.specs.Tables.{size_at}
use Rattle.dshash_parts.specs.declared.histories.PartitionCalls.{PartitionCalls}
use Rattle.dshash_parts.specs.declared.histories.PartitionReplies.{PartitionReplies}

-- the caller n has seen this, with its call of the key as the last turn: a call that was made is the last of its key,
-- and what it leaves is there now; a partition that has to grow has this size, and may
abbrev pub Tells : {O S C R : Type 0} → (Option S → C → Option S × R) → ℕ → Histories (PartitionState S) (PartitionCalls C) (PartitionReplies S R) → List ℕ → C → CoreOut O S C R → Type 0
Tells step n seen key call (Done reply unused freed) = IsFound step seen key call reply × IsLastCall n key call reply (seen (partition_of (hash_of key)))
Tells step n seen key call NeedItem = Unit {0}
Tells step n seen key call (TooFull size spare) = (size_at seen (partition_of (hash_of key)) ≡ size) × (7 ≤ size) × (size < 20)
