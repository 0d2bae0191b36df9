use Rattle.std.proofs.Common.{◌≡◌, ℕ, ◌<◌, false}
use Rattle.span_pools.specs.View.{mark_of}
use Rattle.span_pools.proofs.find.first_page.Given as goal

abbrev pub invariant-loop-page : goal.invariant-loop-page
invariant-loop-page l = record {
  same : l.marks ≡ l.fn.marks;
  none : (p : ℕ) → p < l.page → mark_of l.layout l.fn.marks.words p ≡ false;
}
