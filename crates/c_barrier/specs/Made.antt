-- What the first caller of a new barrier and a further one are, and when there is none.
use Rattle.std.specs.Prelude.{◌≡◌, ℕ, ◌+◌, ◌<◌, ◌⊎◌, [], length, Result, Ok, Err}
use Rattle.std_alloc.specs.Arc.{arc_value}
use Rattle.par_barrier.specs.Shown.{callers_of, history_of, number_of, own_of}
use Rattle.c_barrier.specs.Tries.{Stays}
use Rattle.c_barrier.specs.declared.code.Code.{Code}
use Rattle.c_barrier.specs.declared.code.Code.TheVariants.{BadCallers, NoMemory}
use Rattle.c_barrier.specs.declared.shared.Share.{Share}

-- the one caller that has a share of a barrier for this many callers: the last by its number, and has seen nothing
pub record IsFirst (callers : ℕ) (s : Share) : Type 0 where
  pub callers_are : callers_of (arc_value s.barrier) ≡ callers
  pub others : length s.others.items + 1 ≡ callers
  pub number : number_of s.pass + 1 ≡ callers
  pub fresh : (history_of s.pass ≡ []) × (own_of s.pass ≡ [])

-- there are no callers or more than 4,096. NoMemory has no stated cause
abbrev pub IsRefused : ℕ → Code → Type 0
IsRefused callers BadCallers = (callers ≡ 0) ⊎ (4096 < callers)
IsRefused callers NoMemory = Unit {0}
IsRefused callers code = ⊥

-- A caller whose share was s and is t was asked for a further one. That one has a share of the same barrier, another
-- number than the first one and than all that are to come, and has seen and done nothing; or all callers have shares;
-- or there is no memory. The first one has seen nothing new
abbrev pub IsFurther : Share → Share → Result Share Code → Type 0
IsFurther s t (Ok u) = Stays s t × (t.pass ≡ s.pass) × (arc_value u.barrier ≡ arc_value s.barrier) × (length s.others.items ≡ length t.others.items + 1) × (u.others.items ≡ []) × (number_of u.pass ≡ length t.others.items) × (history_of u.pass ≡ []) × (own_of u.pass ≡ [])
IsFurther s t (Err BadCallers) = (t ≡ s) × (s.others.items ≡ [])
IsFurther s t (Err NoMemory) = t ≡ s
IsFurther s t (Err code) = ⊥
