-- What a call of a caller does: its share s becomes t.
use Rattle.std.specs.Prelude.{◌≡◌, Option, Some, None}
use Rattle.par_barrier.specs.Legal.{MayAnswer}
use Rattle.par_barrier.specs.Shown.{Called, Missed, number_of}
use Rattle.par_barrier.specs.declared.history.BarrierCall.{BarrierCall}
use Rattle.par_barrier.specs.declared.history.BarrierReply.{BarrierReply}
use Rattle.c_barrier.specs.declared.shared.Share.{Share}

-- the same barrier and the same caller
pub record Stays (s t : Share) : Type 0 where
  pub barrier : t.barrier ≡ s.barrier
  pub caller : number_of t.pass ≡ number_of s.pass

-- What a try of a call came to. It was made, with this reply: it is the last entry of the history that the caller has
-- seen, legal at its place, and the last of the caller's own; or another caller was at the barrier, and nothing was done
abbrev pub Tries : Share → Share → BarrierCall → Option BarrierReply → Type 0
Tries s t call (Some reply) = Stays s t × Called s.pass t.pass call reply × MayAnswer call reply
Tries s t call None = Stays s t × Missed s.pass t.pass
