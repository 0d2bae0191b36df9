use Rattle.std.proofs.Common.{◌≡◌, ◌<◌, ◌≤◌, ℕ}
use mathlib.Core.Option.{some}
use lib.ListN.{get_elem?}
use Rattle.par_barrier.specs.Shown.{AreAll, HasAttached, TakesPart}
use Rattle.par_barrier.specs.declared.barrier.BarrierPass.{BarrierPass}
use Rattle.par_barrier.proofs.barrier.Barrier.attach_all.Given as goal

abbrev pub invariant-loop-pass : goal.invariant-loop-pass
invariant-loop-pass g l = record {
  all : AreAll l.self l.passes;
  done : (k : ℕ) (p q : BarrierPass) → k < l.pass-index → get_elem? l.fn.passes k ≡ some p → get_elem? l.passes k ≡ some q → HasAttached p q × TakesPart q;
  rest : (k : ℕ) (q : BarrierPass) → l.pass-index ≤ k → get_elem? l.passes k ≡ some q → get_elem? l.fn.passes k ≡ some q;
}
