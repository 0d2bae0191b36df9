-- Free objects of every size class that a caller of an area keeps, and what its calls do to them.
use Rattle.std.specs.Prelude.{◌≡◌, ◌≢◌, ℕ, zero, suc, ◌+◌, ◌-◌, ◌<◌, ◌⊎◌, List, [], length, Option, Some}
use Rattle.std.specs.List.{slice_get}
use Rattle.std.specs.Option.{option_map_or}
use Rattle.atomic_table.specs.Seated.{TableId}
use Rattle.region_words.specs.declared.chunk.Chunk.{Chunk}
use Rattle.free_pages.specs.Area.{class_count}
use Rattle.size_classes.specs.Classes.{IsClass, IsLeast, class_size, first_class, largest_size}
use Rattle.dsa_area.specs.declared.area.Area.{Area}
use Rattle.dsa_area.specs.declared.area.AreaPass.{AreaPass}
use Rattle.dsa_area.specs.Requests.{IsGranted, IsRefused, IsTakenBack, IsHandedBack}
use Rattle.area_spares.specs.declared.spares.Spares.{Spares}
use Rattle.area_spares.specs.declared.classes.ClassSpares.{ClassSpares}
use Rattle.area_spares.specs.Spares.{IsSpares, IsTakenOut, IsLacking, IsKept, IsKeptBeside, AllGoBack, GoBackUntil, class_of, batch_of, kept_of}

-- the spares of a class
abbrev pub spares_in : ClassSpares → ℕ → Option Spares
spares_in s class = slice_get s.classes.items (class - first_class)

-- the objects of a class that are kept, the one that goes out next at the end
abbrev pub kept_in : ClassSpares → ℕ → List Chunk
kept_in s class = option_map_or kept_of (spares_in s class) []

-- how many objects of a class one turn at its pool gives or takes
abbrev pub batch_in : ClassSpares → ℕ → ℕ
batch_in s class = option_map_or batch_of (spares_in s class) 0

-- what is so between two calls: there are spares of each class, in order
pub record AreSpares (region : TableId) (s : ClassSpares) : Type 0 where
  pub count : length s.classes.items ≡ class_count
  pub each : (i : ℕ) (x : Spares) → slice_get s.classes.items i ≡ Some x → IsSpares region x × (class_of x ≡ i + first_class)

-- the spares of every other class are as they were
abbrev pub SameElsewhere : ClassSpares → ClassSpares → ℕ → Type 0
SameElsewhere old new class = (other : ℕ) → IsClass other → other ≢ class → spares_in new other ≡ spares_in old other

-- at an area, a pass p became q, and the spares `old` became `new`
module _ (a : Area) (p q : AreaPass) (old new : ClassSpares) where
  -- a chunk comes out for a request: of the spares of the least class that holds it; or whole pages
  abbrev pub ComesOut : ℕ → Chunk → Type 0
  ComesOut bytes c =
      ((class : ℕ) × IsLeast bytes class × IsTakenOut a p q class (batch_in old class) (kept_in old class) (kept_in new class) c × SameElsewhere old new class)
      ⊎ ((largest_size < bytes) × IsGranted a p q bytes c.at × (new ≡ old))

  -- a request is refused: the least class that holds it had no spares, nor the pool, nor the area; or whole pages
  abbrev pub IsShort : ℕ → ℕ → ℕ → Type 0
  IsShort bytes wanted largest =
      ((class : ℕ) × IsLeast bytes class × IsLacking a p q class (batch_in old class) (kept_in old class) (kept_in new class) wanted largest × SameElsewhere old new class)
      ⊎ ((largest_size < bytes) × IsRefused a p q bytes wanted largest × (new ≡ old))

  -- a chunk goes in: to the spares of the class with its bytes; or, with the bytes of no class, back to the area
  abbrev pub GoesIn : Chunk → Type 0
  GoesIn c =
      ((class : ℕ) × IsClass class × (class_size class ≡ c.bytes) × IsKept a p q class (kept_in old class) (kept_in new class) c × SameElsewhere old new class)
      ⊎ (((class : ℕ) → IsClass class → class_size class ≢ c.bytes) × IsTakenBack a p q c.at c.bytes × (new ≡ old))

  -- the same, but that a chunk comes back that is none of the area's: one that was kept, or this one
  abbrev pub GoesInBeside : Chunk → Chunk → Type 0
  GoesInBeside c stranger =
      ((class : ℕ) × IsClass class × (class_size class ≡ c.bytes) × IsKeptBeside a p q class (kept_in old class) (kept_in new class) c stranger × SameElsewhere old new class)
      ⊎ (((class : ℕ) → IsClass class → class_size class ≢ c.bytes) × IsHandedBack a p q c.at c.bytes × (stranger ≡ c) × (new ≡ old))

-- the objects of the first n classes went back, class after class, each once
abbrev pub FirstBack : Area → ClassSpares → ℕ → AreaPass → AreaPass → Type 0
FirstBack a s zero p q = q ≡ p
FirstBack a s (suc n) p q = (mid : AreaPass) × FirstBack a s n p mid × AllGoBack a (n + first_class) mid (kept_in s (n + first_class)) q

-- those of some first classes did, so that none of these are left, and of the next class each did until one that was
-- none of the pool's, which is handed back; its others are left, and those of the classes after it
abbrev pub FirstBackUntil : Area → ClassSpares → AreaPass → ClassSpares → AreaPass → Chunk → Type 0
FirstBackUntil a old p new q stranger =
    (n : ℕ) × (n < class_count) × (mid : AreaPass) × FirstBack a old n p mid × GoBackUntil a (n + first_class) mid (kept_in old (n + first_class)) q (kept_in new (n + first_class)) stranger
    × ((other : ℕ) → other < n → kept_in new (other + first_class) ≡ [])
    × ((other : ℕ) → n < other → other < class_count → spares_in new (other + first_class) ≡ spares_in old (other + first_class))
