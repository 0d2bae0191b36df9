-- What becomes of a call with a bound on its key's chain, if it is not made.
use Rattle.std.specs.Prelude.{◌≡◌, ℕ, Bool, false, List, ◌∷◌, ◌++◌, Option}
use Rattle.atomic_table.specs.Seated.{TableId}
use Rattle.lock_book.specs.declared.kept.Kept.{Ghosts}
use Rattle.lock_book.specs.declared.shelf.Pass.{Pass}
use Rattle.lock_book.specs.Shown.{number_of}
use Rattle.dsa_area.specs.Sizes.{chunk_size}
use Rattle.dsa_area.specs.declared.area.Area.{Area}
use Rattle.dsa_area.specs.declared.area.AreaPass.{AreaPass}
use Rattle.dshash_core.specs.Key.{hash_of}
use Rattle.dshash_core.specs.Cells.{partition_of}
use Rattle.dshash_parts.specs.States.{PartitionState}
use Rattle.dshash_parts.specs.declared.histories.PartitionCalls.{PartitionCalls}
use Rattle.dshash_parts.specs.declared.histories.PartitionReplies.{PartitionReplies}
use Rattle.dshash_parts.specs.declared.histories.PartitionCalls.TheVariants.{Call}
use Rattle.dshash_parts.specs.declared.histories.PartitionReplies.TheVariants.{Crowded}
use Rattle.dshash_parts.specs.Tables.{item_of, seed_of}
use Rattle.dshash_parts.specs.declared.table.Dshash.{Dshash}
use Rattle.dshash_parts.specs.declared.histories.PartitionName.{PartitionName}
use Rattle.dshash_parts.specs.declared.asks.TableAsk.{TableAsk}
use Rattle.dshash_parts.specs.declared.asks.TableAnswer.{TableAnswer}
use Rattle.dshash_parts.specs.declared.numbered.Numbered.{Numbered}
use Rattle.dshash_parts.specs.declared.within.NoRoom.{NoRoom}
use Rattle.dshash_parts.specs.declared.within.NoRoom.TheVariants.{Space, Chain}
use Rattle.dshash_parts.specs.Traces.{Event, sight_of, Trace, Turn, NoneMade, AreGifts}
use Rattle.dshash_parts.specs.Promises.{Balances, CallRefused, IsFrugal}

-- The call was not made: its last turn told that its key's chain has `longest` items or more, with hashes of this seed.
-- Nothing was kept, and each chunk that was brought is accounted for. `number` is the partition of the key, and `item` the
-- bytes that are asked for an item
pub record IsCrowdedOut {S C R : Type 0} (number item : ℕ) (key : List ℕ) (call : C) (seed longest : ℕ) (es : List (Event S C R)) : Type 0 where
  pub before : List (Event S C R)
  pub after : List (Event S C R)
  pub spare : Bool
  pub is : es ≡ before ++ Turn number (Call key call spare) (Crowded seed longest spare) ∷ after
  pub none : NoneMade es
  pub gifts_after : AreGifts after
  pub balance : Balances (chunk_size item) false false es
  pub frugal : IsFrugal number item key call es

-- the caller's passes of the table and of its area, p and u, are q and w after a call of a key
module _ {O S C R : Type 0} {g : Ghosts (Numbered O S C R) TableId (TableAsk O S C R) (TableAnswer O S C R) PartitionName (PartitionState S) (PartitionCalls C) (PartitionReplies S R)} (step : Option S → C → Option S × R) (t : Dshash O S C R) (a : Area) (p : Pass (Numbered O S C R) TableId (TableAsk O S C R) (TableAnswer O S C R) PartitionName (PartitionState S) (PartitionCalls C) (PartitionReplies S R) g) (u : AreaPass) (q : Pass (Numbered O S C R) TableId (TableAsk O S C R) (TableAnswer O S C R) PartitionName (PartitionState S) (PartitionCalls C) (PartitionReplies S R) g) (w : AreaPass) (key : List ℕ) (call : C) (longest : ℕ) where
  -- the events of the call, whose chain was too long
  abbrev pub CallCrowded : Type 0
  CallCrowded = (es : List (Event S C R)) × IsCrowdedOut (partition_of (hash_of key)) (item_of t) key call (seed_of t) longest es × Trace step a (number_of p) (sight_of p u) (sight_of q w) es

  -- why the call was not made
  abbrev pub CallEnded : NoRoom → Type 0
  CallEnded (Space lack) = CallRefused step t a p u q w key call lack.pages lack.largest
  CallEnded Chain = CallCrowded
