-- A call of a table by a caller that takes its spare item from a list: what the list gave, and then the call.
use Rattle.std.specs.Prelude.{◌≡◌, ℕ, List, Option, Some, None, is_some}
use Rattle.atomic_table.specs.Seated.{TableId}
use Rattle.region_words.specs.declared.chunk.Chunk.{Chunk}
use Rattle.lock_book.specs.declared.kept.Kept.{Ghosts}
use Rattle.lock_book.specs.declared.shelf.Pass.{Pass}
use Rattle.dsa_area.specs.declared.area.Area.{Area}
use Rattle.dsa_area.specs.declared.area.AreaPass.{AreaPass}
use Rattle.area_spares.specs.Spares.{IsLacking, IsTakenOut, batch_of, class_of, kept_of}
use Rattle.area_spares.specs.declared.spares.Spares.{Spares}
use Rattle.dshash_parts.specs.Promises.{CallMadeWith, CallRefusedWith}
use Rattle.dshash_parts.specs.States.{PartitionState}
use Rattle.dshash_parts.specs.declared.histories.PartitionName.{PartitionName}
use Rattle.dshash_parts.specs.declared.histories.PartitionCalls.{PartitionCalls}
use Rattle.dshash_parts.specs.declared.histories.PartitionReplies.{PartitionReplies}
use Rattle.dshash_parts.specs.declared.asks.TableAsk.{TableAsk}
use Rattle.dshash_parts.specs.declared.asks.TableAnswer.{TableAnswer}
use Rattle.dshash_parts.specs.declared.numbered.Numbered.{Numbered}
use Rattle.dshash_parts.specs.declared.table.Dshash.{Dshash}

-- At an area, a pass p became q, the list `old` became `new`, and what was in hand `before` became `after`: an item that was
-- there is there still, and the list is as it was; or the list gave one; or it lacked one, and so did the area
abbrev pub IsFilled : Area → AreaPass → AreaPass → Spares → Spares → Option Chunk → Option Chunk → Type 0
IsFilled a p q old new (Some c) after = (after ≡ Some c) × (q ≡ p) × (new ≡ old)
IsFilled a p q old new None (Some c) = IsTakenOut a p q (class_of old) (batch_of old) (kept_of old) (kept_of new) c
IsFilled a p q old new None None = (wanted largest : ℕ) × IsLacking a p q (class_of old) (batch_of old) (kept_of old) (kept_of new) wanted largest

-- the caller's passes of the table and of its area, p and u, are q and w after a call of a key, and its list and what was in
-- hand before are `new` and `after`
module _ {O S C R : Type 0} {g : Ghosts (Numbered O S C R) TableId (TableAsk O S C R) (TableAnswer O S C R) PartitionName (PartitionState S) (PartitionCalls C) (PartitionReplies S R)} (step : Option S → C → Option S × R) (t : Dshash O S C R) (a : Area) (p : Pass (Numbered O S C R) TableId (TableAsk O S C R) (TableAnswer O S C R) PartitionName (PartitionState S) (PartitionCalls C) (PartitionReplies S R) g) (u : AreaPass) (q : Pass (Numbered O S C R) TableId (TableAsk O S C R) (TableAnswer O S C R) PartitionName (PartitionState S) (PartitionCalls C) (PartitionReplies S R) g) (w : AreaPass) (old new : Spares) (before : Option Chunk) where
  -- the list gave an item, if none was in hand, and then the call was made with what was in hand
  abbrev pub IsMadeFrom : Option Chunk → List ℕ → C → R → Type 0
  IsMadeFrom after key call reply = (hand : Option Chunk) × (mid : AreaPass) × IsFilled a u mid old new before hand × CallMadeWith step t a p mid q w key call (is_some hand) (is_some after) reply

  -- the same, and then the call was refused, with these two numbers
  abbrev pub IsRefusedFrom : List ℕ → C → ℕ → ℕ → Type 0
  IsRefusedFrom key call wanted largest = (hand : Option Chunk) × (mid : AreaPass) × IsFilled a u mid old new before hand × CallRefusedWith step t a p mid q w key call (is_some hand) wanted largest
