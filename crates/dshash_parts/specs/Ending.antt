-- What a closed table shows.
use Rattle.std.specs.Prelude.{◌≡◌, ℕ, ◌<◌, ◌≤◌, List, [], Option}
use mathlib.Core.Option.{some}
use lib.ListN.{get_elem?}
use Rattle.atomic_table.specs.Seated.{TableId}
use Rattle.lock_book.specs.declared.kept.Kept.{Ghosts}
use Rattle.lock_book.specs.declared.shelf.Pass.{Pass}
use Rattle.lock_book.specs.declared.view.Entry.{Entry}
use Rattle.lock_book.specs.History.{StartsWith, IsLegal, calls_by, last_of}
use Rattle.lock_book.specs.Shown as shelf
use Rattle.lock_book.specs.Shown.{seen_of, mine_of}
use Rattle.dshash_core.specs.Cells.{PartitionView}
use Rattle.dshash_parts.specs.States.{PartitionState, fresh}
use Rattle.dshash_parts.specs.Asked.{name_of, state_of}
use Rattle.dshash_parts.specs.Legal.{PartitionLegal}
use Rattle.dshash_parts.specs.Tables.{callers_of, name_in}
use Rattle.dshash_parts.specs.declared.histories.PartitionName.{PartitionName}
use Rattle.dshash_parts.specs.declared.histories.PartitionCalls.{PartitionCalls}
use Rattle.dshash_parts.specs.declared.histories.PartitionReplies.{PartitionReplies}
use Rattle.dshash_parts.specs.declared.asks.TableAsk.{TableAsk}
use Rattle.dshash_parts.specs.declared.asks.TableAnswer.{TableAnswer}
use Rattle.dshash_parts.specs.declared.numbered.Numbered.{Numbered}
use Rattle.dshash_parts.specs.declared.table.Dshash.{Dshash}
use Rattle.dshash_parts.specs.declared.close.ClosedTable.{ClosedTable}

-- g are the meanings of the locked partitions' members
module _ {O S C R : Type 0} {g : Ghosts (Numbered O S C R) TableId (TableAsk O S C R) (TableAnswer O S C R) PartitionName (PartitionState S) (PartitionCalls C) (PartitionReplies S R)} where
  -- how many partitions a closed table has left
  abbrev pub left_of : ClosedTable O S C R TableId (TableAsk O S C R) (TableAnswer O S C R) PartitionName (PartitionState S) (PartitionCalls C) (PartitionReplies S R) g → ℕ
  left_of c = shelf.left_of c.shelf

  -- the whole history of a partition of a closed table
  abbrev pub whole_of : ClosedTable O S C R TableId (TableAsk O S C R) (TableAnswer O S C R) PartitionName (PartitionState S) (PartitionCalls C) (PartitionReplies S R) g → ℕ → List (Entry (PartitionState S) (PartitionCalls C) (PartitionReplies S R))
  whole_of c number = shelf.whole_of c.shelf number

  -- the partitions of the closed table opened as those of this table, which is in this region, did
  pub record IsOf (region : TableId) (t : Dshash O S C R) (c : ClosedTable O S C R TableId (TableAsk O S C R) (TableAnswer O S C R) PartitionName (PartitionState S) (PartitionCalls C) (PartitionReplies S R) g) : Type 0 where
    pub few : left_of c ≤ 128
    pub parts : (i : ℕ) → i < 128 → get_elem? (shelf.opened_of c.shelf) i ≡ some (name_in region t i, fresh)

  -- The table with these passes was closed. Each partition's whole history is legal and begins with what each pass had
  -- seen; the entries of a caller are the own calls of its pass, and there are no others
  pub record Ended (step : Option S → C → Option S × R) (t : Dshash O S C R) (passes : List (Pass (Numbered O S C R) TableId (TableAsk O S C R) (TableAnswer O S C R) PartitionName (PartitionState S) (PartitionCalls C) (PartitionReplies S R) g)) (c : ClosedTable O S C R TableId (TableAsk O S C R) (TableAnswer O S C R) PartitionName (PartitionState S) (PartitionCalls C) (PartitionReplies S R) g) : Type 0 where
    pub lawful : (i : ℕ) → i < 128 → IsLegal (λ _. PartitionLegal step i) fresh (whole_of c i)
    pub begins : (n i : ℕ) (p : _) → get_elem? passes n ≡ some p → StartsWith (whole_of c i) (seen_of p i)
    pub mine : (n i : ℕ) (p : _) → get_elem? passes n ≡ some p → calls_by n (whole_of c i) ≡ mine_of p i
    pub no_others : (i n : ℕ) → callers_of t ≤ n → calls_by n (whole_of c i) ≡ []

-- the partition of this number of a table, with the last state of its history
pub record IsAt {O S C R : Type 0} (region : TableId) (t : Dshash O S C R) (number : ℕ) (history : List (Entry (PartitionState S) (PartitionCalls C) (PartitionReplies S R))) (p : PartitionView S) : Type 0 where
  pub name : name_of number p ≡ name_in region t number
  pub state : state_of p ≡ last_of fresh history
