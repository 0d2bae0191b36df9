-- Free objects of one size class that a caller of an area keeps, and what its calls do to them. A kept object is live
-- at its pool, and its words are the keeper's.
use Rattle.std.specs.Prelude.{◌≡◌, ℕ, suc, zero, ◌*◌, ◌≤◌, ◌⊎◌, List, [], ◌∷◌, ◌++◌, length, vec_capacity}
use Rattle.atomic_table.specs.Seated.{TableId}
use Rattle.region_words.specs.declared.chunk.Chunk.{Chunk}
use Rattle.size_classes.specs.Classes.{IsClass, class_size}
use Rattle.span_pools.specs.Legal.{AllocMany, FreeMany, Objects, Stranger}
use Rattle.span_pools.specs.Batch.{AreChunks, places}
use Rattle.dsa_area.specs.declared.area.Area.{Area}
use Rattle.dsa_area.specs.declared.area.AreaPass.{AreaPass}
use Rattle.dsa_area.specs.Requests.{AreTakenBack, IsGranted, IsRefused, PoolEvents}
use Rattle.area_spares.specs.declared.spares.Spares.{Spares}

-- the size class
abbrev pub class_of : Spares → ℕ
class_of s = s.class

-- how many objects one turn at the pool gives or takes; twice as many are kept at most
abbrev pub batch_of : Spares → ℕ
batch_of s = s.batch

-- the objects that are kept, the one that goes out next at the end
abbrev pub kept_of : Spares → List Chunk
kept_of s = s.kept.items

-- what is so between two calls: the objects are of this region and of the class, and the list has room for two batches
pub record IsSpares (region : TableId) (s : Spares) : Type 0 where
  pub class : IsClass s.class
  pub some : 1 ≤ s.batch
  pub low : s.batch ≤ 32
  pub room : 2 * s.batch ≤ vec_capacity s.kept
  pub few : length s.kept.items ≤ 2 * s.batch
  pub chunks : AreChunks region (class_size s.class) s.kept.items

-- at an area, a pass p became q, and of a class the kept objects `before` became `after`
module _ (a : Area) (p q : AreaPass) (class batch : ℕ) (before after : List Chunk) where
  -- no object was kept, and the pool was asked for a batch and had none, by a turn after which the pass was `mid`
  pub record NoneFree (mid : AreaPass) : Type 0 where
    pub none_kept : before ≡ []
    pub none_left : after ≡ []
    pub none_free : PoolEvents a p mid class ((AllocMany batch, Objects []) ∷ [])

  -- A chunk comes out: the object that was kept last; or, if none was kept, the last of a batch that the pool gave, of
  -- which the others are kept; or, if the pool had none, one that the area granted
  abbrev pub IsTakenOut : Chunk → Type 0
  IsTakenOut c =
      ((q ≡ p) × (before ≡ after ++ c ∷ []))
      ⊎ (((before ≡ []) × PoolEvents a p q class ((AllocMany batch, Objects (places (after ++ c ∷ []))) ∷ []))
      ⊎ ((mid : AreaPass) × NoneFree mid × IsGranted a mid q (class_size class) c.at))

  -- no object was kept, the pool had none, and the area refused one
  abbrev pub IsLacking : ℕ → ℕ → Type 0
  IsLacking wanted largest = (mid : AreaPass) × NoneFree mid × IsRefused a mid q (class_size class) wanted largest

module _ (a : Area) (p q : AreaPass) (class : ℕ) (before after : List Chunk) where
  -- a chunk is kept, after those that were; or after those that are left when a batch of them went back
  abbrev pub IsKept : Chunk → Type 0
  IsKept c = (rest out : List Chunk) × (before ≡ rest ++ out) × (after ≡ rest ++ c ∷ []) × (((out ≡ []) × (q ≡ p)) ⊎ AreTakenBack a p q class (places out))

  -- a chunk is kept, and of those that went back for it the last was none of the pool's and is handed back
  abbrev pub IsKeptBeside : Chunk → Chunk → Type 0
  IsKeptBeside c stranger = (rest others : List Chunk) × (before ≡ rest ++ stranger ∷ others) × (after ≡ rest ++ c ∷ []) × PoolEvents a p q class ((FreeMany (places (stranger ∷ others)), Stranger) ∷ [])

-- in this many turns at the pool, objects went back from the end of a list on, each once
abbrev pub GoBack : Area → ℕ → AreaPass → List Chunk → ℕ → AreaPass → List Chunk → Type 0
GoBack a class p before zero q after = (q ≡ p) × (after ≡ before)
GoBack a class p before (suc n) q after = (mid : AreaPass) × (rest out : List Chunk) × GoBack a class p before n mid rest × (rest ≡ after ++ out) × AreTakenBack a mid q class (places out)

-- all objects of a list went back, each once
abbrev pub AllGoBack : Area → ℕ → AreaPass → List Chunk → AreaPass → Type 0
AllGoBack a class p before q = (n : ℕ) × GoBack a class p before n q []

-- objects went back, each once, until one that was none of the pool's, which is handed back; the others are left
abbrev pub GoBackUntil : Area → ℕ → AreaPass → List Chunk → AreaPass → List Chunk → Chunk → Type 0
GoBackUntil a class p before q after stranger =
    (n : ℕ) × (mid : AreaPass) × (rest others : List Chunk) × GoBack a class p before n mid rest × (rest ≡ after ++ stranger ∷ others) × PoolEvents a mid q class ((FreeMany (places (stranger ∷ others)), Stranger) ∷ [])
