use Rattle.std.proofs.Common.{◌≡◌, ℕ, ◌++◌, [], length, map, ◌≤◌}
use mathlib.Core.Option.{some}
use lib.ListN.{get_elem?}
use Rattle.lock_book.specs.declared.view.Stage.TheVariants.{Idle}
use Rattle.lock_book.specs.History.{StartsWith, row_at}
use Rattle.lock_book.specs.Ruled.{seen_at, view_of}
use Rattle.lock_book.specs.Shown.{seen_of}
use Rattle.lock_book.proofs.gather.gather.Given as goal

abbrev pub invariant-loop-one : goal.invariant-loop-one
invariant-loop-one g l = record {
  here : l.whole.table_id ≡ l.board.shared.table_id;
  free : l.whole.me.1 ≡ [];
  from : l.whole.me.0.from ≡ length l.passes.items;
  stage : l.whole.me.0.stage ≡ Idle;
  opens : l.whole.me.0.opens ≡ l.board.shared.key.0.value;
  rows : map (λ p. row_at (view_of p.badge.views).owns 0) l.passes.items ++ l.whole.me.0.owns ≡ map (λ p. row_at (view_of p.badge.views).owns 0) l.fn.passes.items;
  front : (k : ℕ) (p : _) → get_elem? l.passes.items k ≡ some p → get_elem? l.fn.passes.items k ≡ some p;
  seen : (k : ℕ) (p : _) → length l.passes.items ≤ k → get_elem? l.fn.passes.items k ≡ some p → (i : ℕ) → StartsWith (seen_at l.whole.me.0 i) (seen_of p i);
}

abbrev pub decreases-loop-one : goal.decreases-loop-one
decreases-loop-one g l = goal.left-loop-one g l
