-- What a turn at a partition may reply, and what it does to the state.
use Rattle.std.specs.Prelude.{◌≡◌, ℕ, ◌*◌, ◌≤◌, true, List, [], ◌∷◌, Option, Some, None}
use Rattle.std.specs.FinMap as fin
use Rattle.lock_book.specs.declared.view.Entry.{Entry}
use Rattle.dshash_core.specs.Key.{hash_of}
use Rattle.dshash_core.specs.Cells.{IsRoomy, KeyMap, buckets_of, partition_of}
use Rattle.dshash_core.specs.Outcome.{IsCrowded, IsDone, IsNeedItem, IsTooFull, ListsAll, IsMoved}
use Rattle.dshash_parts.specs.States.{PartitionState}
use Rattle.dshash_parts.specs.declared.histories.PartitionCalls.{PartitionCalls}
use Rattle.dshash_parts.specs.declared.histories.PartitionCalls.TheVariants.{Call, Looks, Moves, Lists}
use Rattle.dshash_parts.specs.declared.histories.PartitionReplies.{PartitionReplies}
use Rattle.dshash_parts.specs.declared.histories.PartitionReplies.TheVariants.{Made, LacksItem, HasToGrow, Crowded, HasSize, Moved, Listed}

-- what a move from a size leaves over is a slice with a word for each bucket of that size, or of the one that was
-- wanted, if that is smaller
abbrev pub LeavesOver : ℕ → ℕ → ℕ → Type 0
LeavesOver before to left = (size : ℕ) → size ≤ before → size ≤ to → 8 * buckets_of size ≤ left

module _ {S C R : Type 0} (step : Option S → C → Option S × R) where
  -- the reply of each turn, and the state after it: only a call that was made changes the map, only a move the size
  abbrev pub IsTurn : PartitionState S → PartitionCalls C → PartitionReplies S R → PartitionState S → Type 0
  IsTurn before (Call key call spare) (Made reply unused freed) after = (after.size ≡ before.size) × IsDone step before.size before.cells key call spare reply unused freed after.cells
  IsTurn before (Call key call spare) LacksItem after = (after.size ≡ before.size) × IsNeedItem step before.size before.cells key call spare after.cells
  IsTurn before (Call key call spare) (HasToGrow size back) after = (after.size ≡ before.size) × IsTooFull step before.size before.cells key call spare size back after.cells
  IsTurn before (Call key call spare) (Crowded seed longest back) after = (after ≡ before) × (back ≡ spare) × IsCrowded step seed before.size before.cells key call longest
  IsTurn before Looks (HasSize size keys) after = (size ≡ before.size) × (after ≡ before) × (keys ≡ fin.len before.cells)
  IsTurn before (Moves to) (Moved left) after = IsMoved before.size before.cells to after.size after.cells × LeavesOver before.size to left
  IsTurn before Lists (Listed (Some entries)) after = ListsAll before.cells entries × (after ≡ before)
  IsTurn before Lists (Listed None) after = after ≡ before
  IsTurn before call reply after = ⊥

  -- a key that is called belongs to the partition of this number
  abbrev pub IsOurs : ℕ → PartitionCalls C → Type 0
  IsOurs number (Call key call spare) = partition_of (hash_of key) ≡ number
  IsOurs number Looks = Unit {0}
  IsOurs number (Moves to) = Unit {0}
  IsOurs number Lists = Unit {0}

  -- A turn at the partition of this number. After it the bound on the number of keys holds
  pub record PartitionLegal (number : ℕ) (before : PartitionState S) (call : PartitionCalls C) (reply : PartitionReplies S R) (after : PartitionState S) : Type 0 where
    pub is : IsTurn before call reply after
    pub ours : IsOurs number call
    pub roomy : IsRoomy after.size (fin.len after.cells)

-- the keys of the map belong to the partition of this number
abbrev pub AreOurs : {S : Type 0} → ℕ → KeyMap S → Type 0
AreOurs number m = (key : List ℕ) → fin.contains_key m key ≡ true → partition_of (hash_of key) ≡ number

-- may says which call of which key the caller of a number may make
module _ {C : Type 0} (may : ℕ → List ℕ → C → Type 0) where
  -- the caller may take the turn: if it is a call of a key, this caller may make it. All other turns are anybody's
  abbrev pub MayTurn : ℕ → PartitionCalls C → Type 0
  MayTurn caller (Call key call spare) = may caller key call
  MayTurn caller Looks = Unit {0}
  MayTurn caller (Moves to) = Unit {0}
  MayTurn caller Lists = Unit {0}

  -- each turn of a history is one that its caller may take
  abbrev pub AreAllowed : {S R : Type 0} → List (Entry (PartitionState S) (PartitionCalls C) (PartitionReplies S R)) → Type 0
  AreAllowed [] = Unit {0}
  AreAllowed (e ∷ es) = MayTurn e.by e.call × AreAllowed es
