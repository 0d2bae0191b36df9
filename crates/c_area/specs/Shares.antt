-- What is true of one caller's share of an area.
use Rattle.std.specs.Prelude.{◌≡◌, ◌≢◌, ℕ, ◌+◌, ◌<◌, ◌≤◌, [], ◌∷◌, Option, Some, IsSome}
use Rattle.slab.specs.Slab.{get}
use mathlib.Core.Option.{some}
use lib.ListN.{get_elem?}
use Rattle.std_alloc.specs.Arc.{arc_value}
use Rattle.word_map.specs.WordMap.{WordMap, at as word_at}
use Rattle.lock_book.specs.Shown.{Belongs, count_of, mine_of, number_of, opens_of, seen_of}
use Rattle.c_area.specs.Arenas.{IsNew, name_in}
use Rattle.c_area.specs.States.{AreaState}
use Rattle.c_area.specs.declared.shared.Extent.{Extent}
use Rattle.c_area.specs.declared.shared.Share.{Share}
use Rattle.c_area.specs.declared.shared.Shared.{Shared}

-- the words of a chunk of this many, from this one on
abbrev pub extent : ℕ → ℕ → Extent
extent at words = record { at = at; words = words }

-- word k is one of these
abbrev pub IsIn : Extent → ℕ → Type 0
IsIn e k = (e.at ≤ k) × (k < e.at + e.words)

-- these are words, and m has each of them
pub record IsHeld (m : WordMap) (e : Extent) : Type 0 where
  pub valid : 0 < e.at
  pub some : 0 < e.words
  pub has : (k : ℕ) → IsIn e k → IsSome (word_at m k)

-- the words of a caller's chunk of this number, if it has one
abbrev pub chunk_of : Share → ℕ → Option Extent
chunk_of s number = get s.chunks number

-- an area in its region, of one value that opened with no page granted
pub record IsShared (x : Shared) : Type 0 where
  pub state : AreaState
  pub new : IsNew x.pages state
  pub opens : opens_of x.shelf ≡ (name_in x.region x.pages, state) ∷ []
  pub count : count_of x.shelf ≡ 1
  pub few : x.pages ≤ 65536

-- The pass is one of the area; those of callers that have no share yet are too, have the numbers from 0 on, and have
-- seen and done nothing. The caller has the words of each of its chunks, and no two of them have a word in common
pub record IsShare (s : Share) : Type 0 where
  pub shared : IsShared (arc_value s.shared)
  pub own : Belongs (arc_value s.shared).shelf s.pass
  pub others : (k : ℕ) (p : _) → get_elem? s.others.items k ≡ some p → Belongs (arc_value s.shared).shelf p × (number_of p ≡ k) × ((i : ℕ) → (seen_of p i ≡ []) × (mine_of p i ≡ []))
  pub here : s.words.region ≡ (arc_value s.shared).region
  pub held : (number : ℕ) (e : Extent) → chunk_of s number ≡ Some e → IsHeld s.words.words e
  pub apart : (one other : ℕ) (d e : Extent) → chunk_of s one ≡ Some d → chunk_of s other ≡ Some e → one ≢ other → (k : ℕ) → IsIn d k → IsIn e k → ⊥
