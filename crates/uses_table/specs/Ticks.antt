-- A round of the clock at a partition of leases, and at a whole table of them.
use Rattle.std.specs.Prelude.{◌≡◌, ℕ, false, zero, suc, ◌+◌, List, ◌∷◌, ◌++◌, Option}
use Rattle.std.specs.List.{AllByRecursion, count_by}
use Rattle.std.specs.FinMap as fin
use Rattle.atomic_table.specs.Seated.{TableId}
use Rattle.lock_book.specs.declared.kept.Kept.{Ghosts}
use Rattle.lock_book.specs.declared.shelf.Pass.{Pass}
use Rattle.lock_book.specs.declared.view.Entry.{Entry}
use Rattle.lock_book.specs.History.{entry, last_of}
use Rattle.lock_book.specs.Shown.{number_of, seen_of}
use Rattle.lock_book.specs.Told.{Histories}
use Rattle.dsa_area.specs.declared.area.Area.{Area}
use Rattle.dsa_area.specs.declared.area.AreaPass.{AreaPass}
use Rattle.dshash_core.specs.Cells.{partition_of}
use Rattle.dshash_core.specs.Key.{hash_of}
use Rattle.dshash_parts.specs.States.{PartitionState, fresh}
use Rattle.dshash_parts.specs.Tables.{map_at}
use Rattle.dshash_parts.specs.declared.histories.PartitionName.{PartitionName}
use Rattle.dshash_parts.specs.declared.histories.PartitionCalls.{PartitionCalls}
use Rattle.dshash_parts.specs.declared.histories.PartitionCalls.TheVariants.{Call}
use Rattle.dshash_parts.specs.declared.histories.PartitionReplies.{PartitionReplies}
use Rattle.dshash_parts.specs.declared.histories.PartitionReplies.TheVariants.{Made}
use Rattle.dshash_parts.specs.declared.asks.TableAsk.{TableAsk}
use Rattle.dshash_parts.specs.declared.asks.TableAnswer.{TableAnswer}
use Rattle.dshash_parts.specs.declared.numbered.Numbered.{Numbered}
use Rattle.dshash_parts.specs.declared.table.Dshash.{Dshash}
use Rattle.dshash_scan.specs.Visits.{Visit, VisitsEach}
use Rattle.uses_table.specs.Cached.{under}
use Rattle.uses_table.specs.Leases.{is_due, stepped, ticked}
use Rattle.uses_table.specs.declared.lease.Lease.{Lease}
use Rattle.uses_table.specs.declared.lease.LeaseCall.{LeaseCall}
use Rattle.uses_table.specs.declared.lease.LeaseCall.TheVariants.{Tick}

-- an entry of the history of a partition of leases
abbrev pub LeaseEntry : Type 0
LeaseEntry = Entry (PartitionState Lease) (PartitionCalls LeaseCall) (PartitionReplies Lease (Option Lease))

-- a pass of a table of leases; g are the meanings of the locked partitions' members
abbrev pub LeasePass : Ghosts (Numbered Lease Lease LeaseCall (Option Lease)) TableId (TableAsk Lease Lease LeaseCall (Option Lease)) (TableAnswer Lease Lease LeaseCall (Option Lease)) PartitionName (PartitionState Lease) (PartitionCalls LeaseCall) (PartitionReplies Lease (Option Lease)) → Type 0
LeasePass g = Pass (Numbered Lease Lease LeaseCall (Option Lease)) TableId (TableAsk Lease Lease LeaseCall (Option Lease)) (TableAnswer Lease Lease LeaseCall (Option Lease)) PartitionName (PartitionState Lease) (PartitionCalls LeaseCall) (PartitionReplies Lease (Option Lease)) g

-- At a moment of this history a visit of the caller n ticked its key: the reply is the lease that was there, what a round
-- leaves of it was there then, and it was taken out if it was due
pub record WasTicked (n : ℕ) (seen : List LeaseEntry) (visit : Visit (Option Lease)) : Type 0 where
  pub before : List LeaseEntry
  pub after : PartitionState Lease
  pub later : List LeaseEntry
  pub moment : seen ≡ before ++ entry n (Call visit.0 Tick false) (Made visit.1.0 false visit.1.1) after ∷ later
  pub found : visit.1.0 ≡ fin.get (last_of fresh before).cells visit.0
  pub left : fin.get after.cells visit.0 ≡ ticked visit.1.0
  pub taken : visit.1.1 ≡ is_due visit.1.0

-- what a pass has seen of a table of leases
abbrev pub LeaseHistories : Type 0
LeaseHistories = Histories (PartitionState Lease) (PartitionCalls LeaseCall) (PartitionReplies Lease (Option Lease))

-- a round later at a partition: under each of its keys is what the round leaves of the lease that was there, and it has as
-- many keys less as leases are gone
pub record IsLater (seen seen' : LeaseHistories) (partition gone : ℕ) : Type 0 where
  pub older : (key : List ℕ) → partition_of (hash_of key) ≡ partition → under seen' key ≡ ticked (under seen key)
  pub fewer : gone + fin.len (map_at seen' partition) ≡ fin.len (map_at seen partition)

-- how many keys the partitions below a number have
abbrev pub keys_below : ℕ → LeaseHistories → ℕ
keys_below zero seen = 0
keys_below (suc number) seen = keys_below number seen + fin.len (map_at seen number)

-- a round later at all partitions
pub record AreLater (seen seen' : LeaseHistories) (gone : ℕ) : Type 0 where
  pub older : (key : List ℕ) → under seen' key ≡ ticked (under seen key)
  pub fewer : gone + keys_below 128 seen' ≡ keys_below 128 seen

-- the passes p of a table of leases and u of its area became q and w
module _ {g : Ghosts (Numbered Lease Lease LeaseCall (Option Lease)) TableId (TableAsk Lease Lease LeaseCall (Option Lease)) (TableAnswer Lease Lease LeaseCall (Option Lease)) PartitionName (PartitionState Lease) (PartitionCalls LeaseCall) (PartitionReplies Lease (Option Lease))} (t : Dshash Lease Lease LeaseCall (Option Lease)) (a : Area) (p : LeasePass g) (u : AreaPass) (q : LeasePass g) (w : AreaPass) where
  -- One listing of the partition, and then one tick of each key that it told, each once and of no other: this many were
  -- visited, and this many of them were due. The item of each of these went back to the area
  pub record TicksEach (partition visited gone : ℕ) : Type 0 where
    pub each : VisitsEach stepped t a p u q w partition Tick visited
    pub moments : AllByRecursion (WasTicked (number_of p) (seen_of q partition)) each.visits
    pub due : gone ≡ count_by (λ v. v.1.1) each.visits
