-- The calls of one key in a history, as those of one cell.
use Rattle.std.specs.Prelude.{◌≡◌, ℕ, ◌≤◌, cond, List, [], ◌∷◌, ◌++◌, Option, None}
use Rattle.std.specs.FinMap as fin
use Rattle.std.specs.Ordering.{eq_by_cmp, nat_cmp}
use Rattle.std.specs.Cmp.Lexicographic.{slice_cmp}
use Rattle.lock_book.specs.declared.view.Entry.{Entry}
use Rattle.lock_book.specs.History.{last_of, IsLegal}
use Rattle.lock_book.specs.Told.{Histories}
use Rattle.dshash_core.specs.Key.{hash_of}
use Rattle.dshash_core.specs.Cells.{IsRoomy, partition_of}
use Rattle.dshash_parts.specs.States.{PartitionState, fresh}
use Rattle.dshash_parts.specs.Legal.{PartitionLegal}
use Rattle.dshash_parts.specs.Tables.{map_at}
use Rattle.dshash_parts.specs.declared.histories.PartitionCalls.{PartitionCalls}
use Rattle.dshash_parts.specs.declared.histories.PartitionCalls.TheVariants.{Call}
use Rattle.dshash_parts.specs.declared.histories.PartitionReplies.{PartitionReplies}
use Rattle.dshash_parts.specs.declared.histories.PartitionReplies.TheVariants.{Made}

module _ {S C R : Type 0} where
  -- the call of an entry with its reply, if it was made, and of this key
  abbrev pub made_of : List ℕ → PartitionCalls C → PartitionReplies S R → List (C × R)
  made_of key (Call k call spare) (Made reply unused freed) = cond (eq_by_cmp (slice_cmp nat_cmp) key k) ((call, reply) ∷ []) []
  made_of key call reply = []

  -- the calls of a key that were made, with their replies, in order
  abbrev pub calls_of_key : List ℕ → List (Entry (PartitionState S) (PartitionCalls C) (PartitionReplies S R)) → List (C × R)
  calls_of_key key [] = []
  calls_of_key key (e ∷ es) = made_of key e.call e.reply ++ calls_of_key key es

module _ {S C R : Type 0} (step : Option S → C → Option S × R) where
  -- from the state s of a cell, if any, these calls get these replies and leave the state t, if any
  abbrev pub IsRun : Option S → List (C × R) → Option S → Type 0
  IsRun s [] t = s ≡ t
  IsRun s (e ∷ es) t = (e.1 ≡ (step s e.0).1) × IsRun (step s e.0).0 es t

  -- The calls of a key that were seen in its partition are those of one cell, which was absent first and has the map's
  -- state last
  abbrev pub IsOneCell : Histories (PartitionState S) (PartitionCalls C) (PartitionReplies S R) → List ℕ → Type 0
  IsOneCell seen key =
      let number = partition_of (hash_of key) in
      IsRun None (calls_of_key key (seen number)) (fin.get (map_at seen number) key)

-- In each legal history of a partition, the calls of each key are those of one cell, whatever looks, moves, listings
-- and refusals come between
abbrev pub KeysAreCells : Type 0 → Type 0 → Type 0 → Type 0
KeysAreCells S C R = (step : Option S → C → Option S × R) (number : ℕ) (key : List ℕ) (es : List (Entry (PartitionState S) (PartitionCalls C) (PartitionReplies S R)))
    → IsLegal (λ _. PartitionLegal step number) fresh es → IsRun step None (calls_of_key key es) (fin.get (last_of fresh es).cells key)

-- the bound on the number of keys holds after each legal history of a partition
abbrev pub StaysRoomy : Type 0 → Type 0 → Type 0 → Type 0
StaysRoomy S C R = (step : Option S → C → Option S × R) (number : ℕ) (es : List (Entry (PartitionState S) (PartitionCalls C) (PartitionReplies S R)))
    → IsLegal (λ _. PartitionLegal step number) fresh es → IsRoomy (last_of fresh es).size (fin.len (last_of fresh es).cells)

-- the size never falls: what follows a legal history leaves at least its size
abbrev pub SizesGrow : Type 0 → Type 0 → Type 0 → Type 0
SizesGrow S C R = (step : Option S → C → Option S × R) (number : ℕ) (es fs : List (Entry (PartitionState S) (PartitionCalls C) (PartitionReplies S R)))
    → IsLegal (λ _. PartitionLegal step number) fresh (es ++ fs) → (last_of fresh es).size ≤ (last_of fresh (es ++ fs)).size
