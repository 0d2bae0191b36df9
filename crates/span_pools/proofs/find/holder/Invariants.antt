use Rattle.std.proofs.Common.{◌≡◌, ℕ, ◌+◌, ◌≤◌, ◌<◌, false}
use Rattle.span_pools.specs.View.{mark_of}
use Rattle.span_pools.proofs.find.holder.Given as goal

abbrev pub invariant-loop-back : goal.invariant-loop-back
invariant-loop-back l = record {
  same : l.marks ≡ l.fn.marks;
  none : (p : ℕ) → p ≤ l.page → l.page < p + l.back → mark_of l.layout l.fn.marks.words p ≡ false;
}
