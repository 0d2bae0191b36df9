-- A scan of one partition that makes a call of each entry.
use Rattle.std.specs.Prelude.{◌≡◌, ◌≢◌, ℕ, Bool, false, List, [], ◌∷◌, ◌++◌, length, map, reverse, Option, Some, refl}
use Rattle.std.specs.Coded.{Coded, code_by, coded×, coded_ℕ, coded_list}
use Rattle.atomic_table.specs.Seated.{TableId}
use Rattle.lock_book.specs.declared.kept.Kept.{Ghosts}
use Rattle.lock_book.specs.declared.shelf.Pass.{Pass}
use Rattle.lock_book.specs.Shown.{number_of, seen_of, mine_of}
use Rattle.lock_book.specs.Told.{Histories}
use Rattle.dsa_area.specs.Sizes.{chunk_size}
use Rattle.dsa_area.specs.declared.area.Area.{Area}
use Rattle.dsa_area.specs.declared.area.AreaPass.{AreaPass}
use Rattle.dshash_core.specs.Outcome.{ListsAll}
use Rattle.dshash_parts.specs.States.{PartitionState}
use Rattle.dshash_parts.specs.Sweeps.{GaveBack}
use Rattle.dshash_parts.specs.Tables.{AtPartition, Did, Turned, item_of, map_at}
use Rattle.dshash_parts.specs.declared.histories.PartitionName.{PartitionName}
use Rattle.dshash_parts.specs.declared.histories.PartitionCalls.{PartitionCalls}
use Rattle.dshash_parts.specs.declared.histories.PartitionCalls.TheVariants.{Call, Lists}
use Rattle.dshash_parts.specs.declared.histories.PartitionReplies.{PartitionReplies}
use Rattle.dshash_parts.specs.declared.histories.PartitionReplies.TheVariants.{Made, Listed}
use Rattle.dshash_parts.specs.declared.asks.TableAsk.{TableAsk}
use Rattle.dshash_parts.specs.declared.asks.TableAnswer.{TableAnswer}
use Rattle.dshash_parts.specs.declared.numbered.Numbered.{Numbered}
use Rattle.dshash_parts.specs.declared.table.Dshash.{Dshash}

-- a scan: its partition, and the entries that it has still to visit, from the last to the first
pub record ScanView (S : Type 0) : Type 0 where
  pub partition : ℕ
  pub left : List (List ℕ × S)

-- the code by which proofs tell such values apart
abbrev pub scan_code : {S : Type 0} → Coded S → Coded (ScanView S)
scan_code {S} s = code_by (ℕ × List (List ℕ × S)) (coded× coded_ℕ (coded_list (coded× (coded_list coded_ℕ) s))) (λ v. (v.partition, v.left)) (λ q. record { partition = q.0; left = q.1 }) (λ _. refl)

-- a visit: the key, the reply of the call, and whether it took the key out
abbrev pub Visit : Type 0 → Type 0
Visit R = List ℕ × (R × Bool)

-- the turn of a visit by this call
abbrev pub turn_of : {S C R : Type 0} → C → Visit R → PartitionCalls C × PartitionReplies S R
turn_of call visit = (Call visit.0 call false, Made visit.1.0 false visit.1.1)

-- the pass p of the area became q: for each of these answers that is true an item of this many bytes went back
abbrev pub GaveEach : Area → AreaPass → AreaPass → ℕ → List Bool → Type 0
GaveEach a p q bytes [] = q ≡ p
GaveEach a p q bytes (freed ∷ rest) = (m : AreaPass) × GaveBack a p m bytes freed × GaveEach a m q bytes rest

-- the passes p of the table and u of its area became q and w
module _ {O S C R : Type 0} {g : Ghosts (Numbered O S C R) TableId (TableAsk O S C R) (TableAnswer O S C R) PartitionName (PartitionState S) (PartitionCalls C) (PartitionReplies S R)} (step : Option S → C → Option S × R) (t : Dshash O S C R) (a : Area)
    (p : Pass (Numbered O S C R) TableId (TableAsk O S C R) (TableAnswer O S C R) PartitionName (PartitionState S) (PartitionCalls C) (PartitionReplies S R) g) (u : AreaPass)
    (q : Pass (Numbered O S C R) TableId (TableAsk O S C R) (TableAnswer O S C R) PartitionName (PartitionState S) (PartitionCalls C) (PartitionReplies S R) g) (w : AreaPass) where
  -- the entry that came next was visited, by one turn at the scan's partition: if that took the key out, its item went back
  -- to the area
  pub record IsVisit (old new : ScanView S) (call : C) (key : List ℕ) (reply : R) (removed : Bool) : Type 0 where
    pub state : S
    pub partition : new.partition ≡ old.partition
    pub next : old.left ≡ new.left ++ (key, state) ∷ []
    pub turned : Turned step p q old.partition (Call key call false) (Made reply false removed)
    pub gave : GaveBack a u w (chunk_size (item_of t)) removed

  -- One listing of the partition, and then one call of each key that it told, which are those of its map then: each once,
  -- and of no other. Each item that came out went back to the area
  pub record VisitsEach (partition : ℕ) (call : C) (count : ℕ) : Type 0 where
    pub seen : Histories (PartitionState S) (PartitionCalls C) (PartitionReplies S R)
    pub mine : Histories (PartitionState S) (PartitionCalls C) (PartitionReplies S R)
    pub entries : List (List ℕ × S)
    pub listed : AtPartition step (number_of p) (seen_of p) (mine_of p) seen mine partition Lists (Listed (Some entries))
    pub all : ListsAll (map_at seen partition) entries
    pub visits : List (Visit R)
    pub each : map (λ v. v.0) visits ≡ reverse (map (λ e. e.0) entries)
    pub visited : Did step (number_of p) seen mine (seen_of q) (mine_of q) partition (map (turn_of call) visits)
    pub others : (k : ℕ) → k ≢ partition → Did step (number_of p) seen mine (seen_of q) (mine_of q) k []
    pub gave : GaveEach a u w (chunk_size (item_of t)) (map (λ v. v.1.1) visits)
    pub counted : count ≡ length entries
