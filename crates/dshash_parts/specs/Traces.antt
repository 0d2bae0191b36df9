-- The events of a call of the table, in order: turns at partitions, and what was asked of the area.
use Rattle.std.specs.Prelude.{◌≡◌, ℕ, ◌+◌, ◌==◌, if◌then◌else◌, Bool, true, false, List, [], ◌∷◌, Option}
use Rattle.atomic_table.specs.Seated.{TableId}
use Rattle.lock_book.specs.declared.kept.Kept.{Ghosts}
use Rattle.lock_book.specs.declared.shelf.Pass.{Pass}
use Rattle.lock_book.specs.Shown.{seen_of, mine_of}
use Rattle.lock_book.specs.Told.{Histories}
use Rattle.dsa_area.specs.declared.area.Area.{Area}
use Rattle.dsa_area.specs.declared.area.AreaPass.{AreaPass}
use Rattle.dsa_area.specs.Requests.{IsGranted, IsRefused, IsTakenBack, IsHandedBack}
use Rattle.dsa_area.specs.Shown.{number_of}
use Rattle.dshash_parts.specs.States.{PartitionState}
use Rattle.dshash_parts.specs.Tables.{AtPartition}
use Rattle.dshash_parts.specs.declared.histories.PartitionName.{PartitionName}
use Rattle.dshash_parts.specs.declared.asks.TableAsk.{TableAsk}
use Rattle.dshash_parts.specs.declared.asks.TableAnswer.{TableAnswer}
use Rattle.dshash_parts.specs.declared.numbered.Numbered.{Numbered}
use Rattle.dshash_parts.specs.declared.histories.PartitionCalls.{PartitionCalls}
use Rattle.dshash_parts.specs.declared.histories.PartitionReplies.{PartitionReplies}
use Rattle.dshash_parts.specs.declared.histories.PartitionReplies.TheVariants.{Made, HasToGrow}

-- What a call asks of the area: a chunk of this many bytes, which it gets or does not; and a chunk of this many that it
-- gives back. If the answer says so, the area took that one; else the area handed it back and the call dropped it, so it is
-- lost
pub data Request : Type 0 where
  Got : ℕ → Request
  Missed : ℕ → ℕ → ℕ → Request
  Gave : ℕ → Bool → Request

-- the pass p of the area became q by it
abbrev pub Requested : Area → AreaPass → AreaPass → Request → Type 0
Requested a p q (Got bytes) = (at : ℕ) × IsGranted a p q bytes at
Requested a p q (Missed bytes wanted largest) = IsRefused a p q bytes wanted largest
Requested a p q (Gave bytes true) = (at : ℕ) × IsTakenBack a p q at bytes
Requested a p q (Gave bytes false) = (at : ℕ) × IsHandedBack a p q at bytes

-- a turn at the partition of a number, or a request to the area
pub data Event (S C R : Type 0) : Type 0 where
  Turn : ℕ → PartitionCalls C → PartitionReplies S R → Event S C R
  Asked : Request → Event S C R

-- what a pass of a table shows, together with the pass of the area
pub record Sight (S C R : Type 0) : Type 0 where
  pub seen : Histories (PartitionState S) (PartitionCalls C) (PartitionReplies S R)
  pub mine : Histories (PartitionState S) (PartitionCalls C) (PartitionReplies S R)
  pub area : AreaPass

-- what histories and a pass of the area show together
abbrev pub sight : {S C R : Type 0} → Histories (PartitionState S) (PartitionCalls C) (PartitionReplies S R) → Histories (PartitionState S) (PartitionCalls C) (PartitionReplies S R) → AreaPass → Sight S C R
sight seen mine area = record { seen = seen; mine = mine; area = area }

-- what a pass of a table and a pass of its area show
abbrev pub sight_of : {O S C R : Type 0} {g : Ghosts (Numbered O S C R) TableId (TableAsk O S C R) (TableAnswer O S C R) PartitionName (PartitionState S) (PartitionCalls C) (PartitionReplies S R)} → Pass (Numbered O S C R) TableId (TableAsk O S C R) (TableAnswer O S C R) PartitionName (PartitionState S) (PartitionCalls C) (PartitionReplies S R) g → AreaPass → Sight S C R
sight_of pass area = sight (seen_of pass) (mine_of pass) area

module _ {S C R : Type 0} (step : Option S → C → Option S × R) (a : Area) (n : ℕ) where
  -- one event
  abbrev pub Makes : Sight S C R → Sight S C R → Event S C R → Type 0
  Makes v w (Turn number call reply) = AtPartition step n v.seen v.mine w.seen w.mine number call reply × (w.area ≡ v.area)
  Makes v w (Asked request) = Requested a v.area w.area request × (number_of w.area ≡ number_of v.area) × (w.seen ≡ v.seen) × (w.mine ≡ v.mine)

  -- these events in order, and no others
  abbrev pub Trace : Sight S C R → Sight S C R → List (Event S C R) → Type 0
  Trace v w [] = w ≡ v
  Trace v w (e ∷ es) = (u : Sight S C R) × Makes v u e × Trace u w es

module _ {S C R : Type 0} where
  -- how many chunks the area was asked for
  abbrev pub asked : List (Event S C R) → ℕ
  asked [] = 0
  asked (Asked (Got bytes) ∷ es) = 1 + asked es
  asked (Asked (Missed bytes wanted largest) ∷ es) = 1 + asked es
  asked (e ∷ es) = asked es

  -- how often a partition had to grow first
  abbrev pub fulls : List (Event S C R) → ℕ
  fulls [] = 0
  fulls (Turn number call (HasToGrow size back) ∷ es) = 1 + fulls es
  fulls (e ∷ es) = fulls es

  -- no call of a key was made in these events
  abbrev pub NoneMade : List (Event S C R) → Type 0
  NoneMade [] = Unit {0}
  NoneMade (Turn number call (Made reply unused freed) ∷ es) = ⊥
  NoneMade (e ∷ es) = NoneMade es

  -- all of these events give a chunk to the area, which took it or did not
  abbrev pub AreGifts : List (Event S C R) → Type 0
  AreGifts [] = Unit {0}
  AreGifts (Asked (Gave bytes accepted) ∷ es) = AreGifts es
  AreGifts (e ∷ es) = ⊥

  -- of these events the turns at one partition, in order: each call with its reply
  abbrev pub turns_at : ℕ → List (Event S C R) → List (PartitionCalls C × PartitionReplies S R)
  turns_at k [] = []
  turns_at k (Turn number call reply ∷ es) = if number == k then ((call, reply) ∷ turns_at k es) else turns_at k es
  turns_at k (Asked request ∷ es) = turns_at k es
