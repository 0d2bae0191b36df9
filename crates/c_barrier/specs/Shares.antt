-- What is true of one caller's share of a barrier.
use Rattle.std.specs.Prelude.{◌≡◌, ℕ, []}
use mathlib.Core.Option.{some}
use lib.ListN.{get_elem?}
use Rattle.std_alloc.specs.Arc.{arc_value}
use Rattle.par_barrier.specs.Shown.{Belongs, history_of, number_of, own_of}
use Rattle.c_barrier.specs.declared.shared.Share.{Share}

-- the pass is one of the barrier; those of callers that have no share yet are too, have the numbers from 0 on, and have
-- seen and done nothing
pub record IsShare (s : Share) : Type 0 where
  pub own : Belongs (arc_value s.barrier) s.pass
  pub others : (k : ℕ) (p : _) → get_elem? s.others.items k ≡ some p → Belongs (arc_value s.barrier) p × (number_of p ≡ k) × (history_of p ≡ []) × (own_of p ≡ [])
