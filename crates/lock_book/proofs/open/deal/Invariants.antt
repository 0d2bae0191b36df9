use Rattle.std.proofs.Common.{◌≡◌, ℕ, ◌+◌, ◌-◌, ◌<◌, ◌≤◌, [], length, vec_capacity, vec_len}
use mathlib.Core.Option.{some}
use lib.ListN.{get_elem?}
use Rattle.lock_book.specs.Ruled.{fresh_pass, view_of}
use Rattle.lock_book.proofs.open.deal.Given as goal

abbrev pub invariant-loop-number : goal.invariant-loop-number
invariant-loop-number g l = record {
  here : l.rest.table_id ≡ l.initial.rest.table_id;
  free : l.rest.me.1 ≡ [];
  view : l.rest.me.0 ≡ fresh_pass l.initial.rest.me.0.opens l.callers l.number (l.callers - l.number);
  room : vec_len l.passes + (l.callers - l.number) ≤ vec_capacity l.passes;
  count : length l.passes.items ≡ l.number;
  made : (k : ℕ) (p : _) → get_elem? l.passes.items k ≡ some p → (p.badge.table_id ≡ l.initial.rest.table_id) × (view_of p.badge.views ≡ fresh_pass l.initial.rest.me.0.opens l.callers k 1) × (k < l.callers);
}
