use Rattle.std.proofs.Common.{◌≡◌, ℕ, ◌<◌, ◌≤◌, None}
use Rattle.slab.specs.Slab.{get}
use Rattle.c_area.proofs.caller.Caller.next.Given as goal

abbrev pub invariant-loop-number : goal.invariant-loop-number
invariant-loop-number l = record {
  none : (k : ℕ) → l.from ≤ k → k < l.number → get l.chunks k ≡ None;
}
