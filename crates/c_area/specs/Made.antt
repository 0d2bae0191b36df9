-- What the first caller of a new area and a further one are, and when there is none.
use Rattle.std.specs.Prelude.{◌≡◌, ℕ, ◌+◌, ◌<◌, ◌⊎◌, [], length, None, Result, Ok, Err}
use Rattle.std_alloc.specs.Arc.{arc_value}
use Rattle.lock_book.specs.Shown.{callers_of, mine_of, number_of, seen_of}
use Rattle.c_area.specs.Shares.{chunk_of}
use Rattle.c_area.specs.Tries.{SameChunks}
use Rattle.c_area.specs.declared.code.Code.{Code}
use Rattle.c_area.specs.declared.code.Code.TheVariants.{BadCallers, BadSize, NoMemory}
use Rattle.c_area.specs.declared.shared.Share.{Share}

-- the caller has seen and done nothing, and has no chunk
pub record IsFresh (s : Share) : Type 0 where
  pub fresh : (i : ℕ) → (seen_of s.pass i ≡ []) × (mine_of s.pass i ≡ [])
  pub empty : (number : ℕ) → chunk_of s number ≡ None

-- the one caller that has a share of an area of this many pages, for this many callers: the last by its number, and fresh
pub record IsFirst (callers pages : ℕ) (s : Share) : Type 0 where
  pub pages_are : (arc_value s.shared).pages ≡ pages
  pub callers_are : callers_of (arc_value s.shared).shelf ≡ callers
  pub others : length s.others.items + 1 ≡ callers
  pub number : number_of s.pass + 1 ≡ callers
  pub fresh : IsFresh s

-- there are no callers or more than 4,096; the pages are more than 65,536. NoMemory has no stated cause
abbrev pub IsRefused : ℕ → ℕ → Code → Type 0
IsRefused callers pages BadCallers = (callers ≡ 0) ⊎ (4096 < callers)
IsRefused callers pages BadSize = 65536 < pages
IsRefused callers pages NoMemory = Unit {0}
IsRefused callers pages code = ⊥

-- A caller whose share was s and is t was asked for a further one. That one has a share of the same area, another number
-- than the first one and than all that are to come, and is fresh; or all callers have shares; or there is no memory.
-- The first one has seen nothing new, and has its chunks
abbrev pub IsFurther : Share → Share → Result Share Code → Type 0
IsFurther s t (Ok u) = (t.shared ≡ s.shared) × (t.pass ≡ s.pass) × SameChunks s t × (arc_value u.shared ≡ arc_value s.shared) × (length s.others.items ≡ length t.others.items + 1) × (u.others.items ≡ []) × (number_of u.pass ≡ length t.others.items) × IsFresh u
IsFurther s t (Err BadCallers) = (t ≡ s) × (s.others.items ≡ [])
IsFurther s t (Err NoMemory) = t ≡ s
IsFurther s t (Err code) = ⊥
